-- What the raise to a hull price of zero leaves. Assumes nothing.
use Rattle.std.proofs.Common.{◌≡◌, ℕ, ◌≤◌, List, length, replicate, ℤ, pos, ◌≤ℤ◌}
use Rattle.rows.specs.Places.{opposite, kept, weight}
use Rattle.duties.specs.Duties.{Net}
use Rattle.matchings.specs.Rowed.{Bounded, PlacesNear}
use Rattle.matchings.specs.Growths.{Stands, Rests}
use Rattle.matchings.proofs.LastRaise.{down_near, settle_stands, settle_rests, settle_zero}
use Rattle.planner.specs.declared.search.links.Links.{Links}
use Rattle.planner.specs.declared.search.prices.Prices.{Prices}
use Rattle.planner.specs.declared.search.tails.Tails.{Tails}
use Rattle.planner.specs.Searches.{trips, AreBorneOut, IsHalted, AreRaised}

module _ {V : Type 0} (row : V → List ℤ) (count : ℕ) (long : (v : V) → length (row v) ≡ count) (near : (v : V) → kept (row v) ≡ row v) (net : Net (List ℤ)) (bd : Bounded count net)
    (links : Links) (few : trips links ≤ 4000) (prices : Prices V) (tails : Tails V) (st : AreBorneOut row net links prices) (halt : IsHalted row net links prices tails) (low : weight (row prices.hull) ≤ℤ pos 0)
    (d : V) (down : row d ≡ opposite (row prices.hull)) where
  pub down_step : PlacesNear 40000000000000000 (row d)
  down_step = down_near row count long near net bd (trips links) few links.next.now links.prior.now tails.reached.now tails.via.now prices.coming.now prices.leaving.now tails.slack.now prices.hull st halt low d down

  module _ (prices' : Prices V) (tails' : Tails V) (r : AreRaised row links (weight (row d)) prices prices' tails tails') (h' : V) (zero : row h' ≡ replicate count (pos 0)) where
    pub settled_borne : Stands row net (trips links) links.next.now links.prior.now prices'.coming.now prices'.leaving.now h'
    settled_borne = settle_stands row count long near net bd (trips links) few links.next.now links.prior.now tails.reached.now tails.via.now prices.coming.now prices.leaving.now tails.slack.now prices.hull st halt low d down prices'.coming.now prices'.leaving.now tails'.slack.now h' r.coming_long r.leaving_long zero r.at_heads r.at_tails

    pub settled_calm : Rests row (trips links) prices'.coming.now prices'.leaving.now h'
    settled_calm = settle_rests row count long near net bd (trips links) few links.next.now links.prior.now tails.reached.now tails.via.now prices.coming.now prices.leaving.now tails.slack.now prices.hull st halt low d down prices'.coming.now prices'.leaving.now tails'.slack.now h' r.coming_long r.leaving_long zero r.at_heads r.at_tails

    pub settled_zero : weight (row h') ≡ pos 0
    settled_zero = settle_zero row count long near net bd (trips links) few links.next.now links.prior.now tails.reached.now tails.via.now prices.coming.now prices.leaving.now tails.slack.now prices.hull st halt low d down prices'.coming.now prices'.leaving.now tails'.slack.now h' r.coming_long r.leaving_long zero r.at_heads r.at_tails
