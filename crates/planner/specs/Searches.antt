-- What holds of the links, the prices and what a growth knows of the tails; and what the search answers: how far the reached tails go, what a growth came to, and how the search ends. Assumes nothing.
use Rattle.std.specs.Prelude.{◌≡◌, ℕ, ◌+◌, ◌<◌, ◌≤◌, Bool, true, false, ◌⊎◌, List, length, ℤ, pos, ◌≤ℤ◌, Ok, Err, Option, Result}
use Rattle.rows.specs.Places.{weight}
use Rattle.duties.specs.Duties.{Net}
use Rattle.matchings.specs.Tables.{free, Least, RaiseHeads, RaiseTails}
use Rattle.matchings.specs.Rowed.{weighed, weights, TableNear}
use Rattle.matchings.specs.Sound.{Closed}
use Rattle.matchings.specs.Growths.{Stands, Rests, Growing, Ready, Halt}
use Rattle.planner.specs.declared.outcome.Unplanned.{Unplanned}
use Rattle.planner.specs.declared.outcome.Unplanned.TheVariants.{TooFew, TooDear}
use Rattle.planner.specs.declared.search.links.Links.{Links}
use Rattle.planner.specs.declared.search.prices.Prices.{Prices}
use Rattle.planner.specs.declared.search.tails.Tails.{Tails}
use Rattle.planner.specs.declared.search.stuck.Stuck.{Stuck}
use Rattle.planner.specs.declared.search.stuck.Stuck.TheVariants.{DeadEnd, Dear}

-- ---- the lent tables

-- how many trips are linked
abbrev pub trips : Links → ℕ
trips links = length links.next.now

-- Each price of coming to a trip, and of leaving it, is within ±q in each place.
pub record PricesNear {V : Type 0} (row : V → List ℤ) (q : ℕ) (prices : Prices V) : Type 0 where
  pub coming : TableNear row q prices.coming.now
  pub leaving : TableNear row q prices.leaving.now

-- At all times: the prices bear the links out.
abbrev pub AreBorneOut : {V : Type 0} → (V → List ℤ) → Net (List ℤ) → Links → Prices V → Type 0
AreBorneOut row net links prices = Stands row net (trips links) links.next.now links.prior.now prices.coming.now prices.leaving.now prices.hull

-- Between two growths: how far the prices lie from zero.
abbrev pub AreCalm : {V : Type 0} → (V → List ℤ) → Links → Prices V → Type 0
AreCalm row links prices = Rests row (trips links) prices.coming.now prices.leaving.now prices.hull

-- Within a growth, where t tails are reached.
abbrev pub IsGrown : {V : Type 0} → (V → List ℤ) → Net (List ℤ) → Links → Prices V → Tails V → ℕ → Type 0
IsGrown row net links prices tails t = Growing row net (trips links) links.next.now links.prior.now tails.reached.now tails.via.now prices.coming.now prices.leaving.now tails.slack.now prices.hull t

-- A growth that goes no further, since no raise that keeps the hull price below zero reaches another tail.
abbrev pub IsHalted : {V : Type 0} → (V → List ℤ) → Net (List ℤ) → Links → Prices V → Tails V → Type 0
IsHalted row net links prices tails = Halt row net (trips links) links.next.now links.prior.now tails.reached.now tails.via.now prices.coming.now prices.leaving.now tails.slack.now prices.hull

-- The tail i is reached and has no head: a flip may begin.
abbrev pub IsReady : {V : Type 0} → (V → List ℤ) → Net (List ℤ) → Links → Prices V → Tails V → ℕ → Type 0
IsReady row net links prices tails i = Ready (weighed net) (trips links) links.next.now links.prior.now tails.reached.now tails.via.now (weights row prices.coming.now) (weights row prices.leaving.now) i

-- No tail that is not reached has a link to a reached head, and each reached tail has a head.
abbrev pub IsClosed : {V : Type 0} → Net (List ℤ) → Links → Tails V → Type 0
IsClosed net links tails = Closed (weighed net) (trips links) links.next.now links.prior.now tails.reached.now

-- A tail of least slack among those that are not reached and have a link to a reached head, or none where there is no such tail.
abbrev pub IsLeast : {V : Type 0} → (V → List ℤ) → Tails V → Option ℕ → Type 0
IsLeast row tails i = Least tails.reached.now (weights row tails.slack.now) tails.via.now (length tails.reached.now) i

-- ---- a raise

-- The prices of coming to the reached heads are d more, those of leaving the reached tails d less, and so are the slacks of the other tails that have one.
pub record AreRaised {V : Type 0} (row : V → List ℤ) (links : Links) (d : ℤ) (prices prices' : Prices V) (tails tails' : Tails V) : Type 0 where
  pub hull : prices'.hull ≡ prices.hull
  pub reached : tails'.reached.now ≡ tails.reached.now
  pub via : tails'.via.now ≡ tails.via.now
  pub coming_long : length prices'.coming.now ≡ length prices.coming.now
  pub leaving_long : length prices'.leaving.now ≡ length prices.leaving.now
  pub slack_long : length tails'.slack.now ≡ length tails.slack.now
  pub at_heads : RaiseHeads links.prior.now tails.reached.now d (length tails.reached.now) (weights row prices.coming.now) (weights row prices'.coming.now)
  pub at_tails : RaiseTails tails.reached.now tails.via.now d (length tails.reached.now) (weights row prices.leaving.now) (weights row prices'.leaving.now) (weights row tails.slack.now) (weights row tails'.slack.now)

-- ---- answers

-- How far the reached tails go: a tail without a head is reached, and a flip may begin; or no other tail can be reached, where the duties are not within the limit; or, where they are, none at a hull price at or below zero.
abbrev pub Extended : {V : Type 0} → (V → List ℤ) → Net (List ℤ) → Links → Prices V → Tails V → Bool → Result ℕ Stuck → Type 0
Extended row net links prices tails within (Ok i) = IsReady row net links prices tails i × AreCalm row links prices
Extended row net links prices tails within (Err DeadEnd) = IsClosed net links tails × (within ≡ false)
Extended row net links prices tails within (Err Dear) = IsHalted row net links prices tails × (within ≡ true)

-- What a growth came to: one head more has a tail; or the links are as they were, and the hull price is zero, or it is a dead end.
abbrev pub GrownTo : {V : Type 0} → (V → List ℤ) → Net (List ℤ) → Links → Links → Prices V → Tails V → Bool → Result Unit Stuck → Type 0
GrownTo row net links links' prices tails within (Ok _) = (free links'.prior.now + 1 ≡ free links.prior.now) × AreCalm row links' prices × (within ≡ true → weight (row prices.hull) ≤ℤ pos 0)
GrownTo row net links links' prices tails within (Err Dear) = (links'.next.now ≡ links.next.now) × (links'.prior.now ≡ links.prior.now) × AreCalm row links' prices × (weight (row prices.hull) ≡ pos 0) × (within ≡ true)
GrownTo row net links links' prices tails within (Err DeadEnd) = (links'.next.now ≡ links.next.now) × (links'.prior.now ≡ links.prior.now) × IsClosed net links' tails × (within ≡ false)

-- How the search ends: so many heads have no tail, within the limit, and the hull price is not below zero, and is zero where they are fewer than the limit; or they are more than the limit, at a dead end.
abbrev pub Solved : {V : Type 0} → (V → List ℤ) → Net (List ℤ) → ℕ → Links → Prices V → Tails V → Result ℕ Unplanned → Type 0
Solved row net limit links prices tails (Ok c) = (free links.prior.now ≡ c) × (c ≤ limit) × (pos 0 ≤ℤ weight (row prices.hull)) × ((c ≡ limit) ⊎ (weight (row prices.hull) ≡ pos 0)) × AreCalm row links prices
Solved row net limit links prices tails (Err (TooFew c)) = (free links.prior.now ≡ c) × (limit < c) × IsClosed net links tails
Solved row net limit links prices tails (Err TooDear) = ⊥
