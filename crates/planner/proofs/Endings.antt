-- What the end of a search means for the day that was searched.
use Rattle.std.proofs.Common.{◌≡◌, ℕ, ◌^◌, ◌<◌, ◌≤◌, true, List, map, length, ℤ, pos, Ok, Err, sym, ◌∙◌, subst, arith, w64, to_z, of_z}
use Rattle.std.proofs.lemmas.Int.{ints, to_z-of_z}
use Rattle.std.proofs.lemmas.List.{length-map}
use Rattle.rows.specs.Places.{added, opposite, scaled, kept}
use Rattle.duties.specs.Duties.{Net}
use Rattle.duties.specs.Plans.{Accepted}
use Rattle.matchings.specs.Rowed.{Bounded, weighed}
use Rattle.matchings.specs.Sound.{Closed}
use Rattle.matchings.specs.Growths.{Stands, Rests}
use Rattle.outcomes.specs.Passes.{Totalled, Priced}
use Rattle.outcomes.proofs.Totals.{summed, length_summed}
use Rattle.outcomes.proofs.Accepts.{accepted, written_row, summed_row, coming_near, leaving_near}
use Rattle.outcomes.proofs.Refuses.{too_few}
use Rattle.plans.specs.Answers.{cost_high, TooDear as Dearer}
use Rattle.planner.specs.declared.outcome.Unplanned.{Unplanned}
use Rattle.planner.specs.declared.outcome.Unplanned.TheVariants.{TooFew, TooDear}
use Rattle.planner.specs.declared.search.links.Links.{Links}
use Rattle.planner.specs.declared.search.prices.Prices.{Prices}
use Rattle.planner.specs.declared.search.tails.Tails.{Tails}
use Rattle.planner.specs.Outcomes.{Why}
use Rattle.planner.specs.Searches.{trips, PricesNear, AreBorneOut, Solved}

-- a number of duties is the same number with a sign
pub signed_number : (c : ℕ) (x : ℤ) → x ≡ pos c → c < 2 ^ 16 → to_z w64 (of_z w64 x) ≡ pos c
signed_number c x e fits = grind (arith, ints, to_z-of_z)

module _ {V : Type 0} (row : V → List ℤ) (count : ℕ) (net : Net (List ℤ)) (bd : Bounded count net) (few : net.trips ≤ 200)
    (links : Links) (prices : Prices V) (tails : Tails V) (el : trips links ≡ net.trips) (st : AreBorneOut row net links prices) (limit : ℕ) where
  stands : Stands row net net.trips links.next.now links.prior.now prices.coming.now prices.leaving.now prices.hull
  stands = subst (λ k. Stands row net k links.next.now links.prior.now prices.coming.now prices.leaving.now prices.hull) el st

  pub ends_short : (why : Unplanned) → Solved row net limit links prices tails (Err why) → Why count net limit why
  ends_short (TooFew c) s = too_few row count net bd few links.next.now links.prior.now tails.reached.now prices.coming.now prices.leaving.now prices.hull stands (subst (λ k. Closed (weighed net) k links.next.now links.prior.now tails.reached.now) el s.2) limit c s.0 s.1
  ends_short TooDear s = absurd s

  module _ (long : (v : V) → length (row v) ≡ count) (near : (v : V) → kept (row v) ≡ row v) (c : ℕ) (s : Solved row net limit links prices tails (Ok c)) where
    rests : Rests row net.trips prices.coming.now prices.leaving.now prices.hull
    rests = subst (λ k. Rests row k prices.coming.now prices.leaving.now prices.hull) el s.4

    pub ends_near : PricesNear row 32012000000000 prices
    ends_near = record { coming = coming_near row count long near net bd few links.next.now links.prior.now prices.coming.now prices.leaving.now prices.hull stands rests; leaving = leaving_near row count long near net bd few links.next.now links.prior.now prices.coming.now prices.leaving.now prices.hull stands rests }

    module _ (total hx whole : V) (paid : Totalled row prices.coming.now prices.leaving.now (length prices.coming.now) total) (limited : limit ≤ 200) (by : ℤ) (is_by : by ≡ pos c)
        (ex : row hx ≡ kept (scaled by (row prices.hull))) (ec : row whole ≡ kept (added (row total) (opposite (row hx)))) where
      paid_all : Totalled row prices.coming.now prices.leaving.now net.trips total
      paid_all = subst (λ k. Totalled row prices.coming.now prices.leaving.now k total) stands.a_long paid

      pub ends_planned : (written : List V) → length written ≡ net.trips → Priced row prices.coming.now prices.leaving.now (length prices.coming.now) written → Accepted count net limit links.next.now (map row written) c (row whole) (row prices.hull)
      ends_planned written lw priced =
          accepted row count long near net bd few links.next.now links.prior.now prices.coming.now prices.leaving.now prices.hull stands rests (map row written) (length-map written row ∙ lw)
          (written_row row count long near net bd few links.next.now links.prior.now prices.coming.now prices.leaving.now prices.hull stands rests written lw (subst (λ k. Priced row prices.coming.now prices.leaving.now k written) stands.a_long priced))
          total paid_all c limit by is_by hx whole ex ec s.0 s.1 limited s.2 s.3

      pub ends_dear : cost_high (row whole) ≡ true → Dearer count net limit
      ends_dear high =
          record {
            table = links.next.now;
            prices = summed row prices.coming.now prices.leaving.now;
            number = c;
            cost = row whole;
            hull = row prices.hull;
            accepted = accepted row count long near net bd few links.next.now links.prior.now prices.coming.now prices.leaving.now prices.hull stands rests (summed row prices.coming.now prices.leaving.now) (length_summed row prices.coming.now prices.leaving.now (stands.a_long ∙ sym stands.b_long) ∙ stands.a_long)
                (summed_row row count long near net bd few links.next.now links.prior.now prices.coming.now prices.leaving.now prices.hull stands rests) total paid_all c limit by is_by hx whole ex ec s.0 s.1 limited s.2 s.3;
            high = high;
          }
