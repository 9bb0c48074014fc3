-- What a raise by the least slack leaves, and the scan after it. Assumes nothing.
use Rattle.std.proofs.Common.{◌≡◌, ℕ, ◌+◌, ◌≤◌, ◌≢◌, List, length, get_or, set, ℤ, ◌+ℤ◌, Some, Option, refl, ap, ◌∙◌, subst, arith}
use Rattle.rows.specs.Places.{added, kept, weight}
use Rattle.duties.specs.Duties.{Net}
use Rattle.matchings.specs.Tables.{at, at_z, Scan, Least}
use Rattle.matchings.specs.Rowed.{weighed, weights, Bounded, PlacesNear, TableNear, SlacksNear}
use Rattle.matchings.specs.Sound.{Tree}
use Rattle.matchings.specs.Growths.{Stands, Rests, Growing}
use Rattle.matchings.proofs.ReachingValues.{hull_near, near_heads, near_tails, near_slacks, step_near, stands_to, hull_to, ends_to, further_to, near_heads_after, near_tails_after}
use Rattle.matchings.proofs.RowPlaces.{near_more}
use Rattle.planner.specs.declared.search.links.Links.{Links}
use Rattle.planner.specs.declared.search.prices.Prices.{Prices}
use Rattle.planner.specs.declared.search.tails.Tails.{Tails}
use Rattle.planner.specs.Searches.{trips, PricesNear, AreBorneOut, IsGrown, IsLeast, AreRaised}

module _ {V : Type 0} (row : V → List ℤ) (count : ℕ) (long : (v : V) → length (row v) ≡ count) (near : (v : V) → kept (row v) ≡ row v) (net : Net (List ℤ)) (bd : Bounded count net)
    (links : Links) (few : trips links ≤ 4000) (prices : Prices V) (tails : Tails V) (t : ℕ) (st : AreBorneOut row net links prices) (sk : IsGrown row net links prices tails t) where
  pub prices_near : PricesNear row 40000000000000000 prices
  prices_near = record { coming = near_heads row count long near net bd (trips links) few links.next.now links.prior.now tails.reached.now tails.via.now prices.coming.now prices.leaving.now tails.slack.now prices.hull t st sk; leaving = near_tails row count long near net bd (trips links) few links.next.now links.prior.now tails.reached.now tails.via.now prices.coming.now prices.leaving.now tails.slack.now prices.hull t st sk }

  pub hull_price_near : PlacesNear 40000000000000000 (row prices.hull)
  hull_price_near = near_more 48018000000000 40000000000000000 (row prices.hull) (omega arith) (hull_near row count long near net bd (trips links) few links.next.now links.prior.now tails.reached.now tails.via.now prices.coming.now prices.leaving.now tails.slack.now prices.hull t st sk)

  pub slacks_near : SlacksNear row 40000000000000000 tails.reached.now tails.via.now tails.slack.now
  slacks_near = near_slacks row count long near net bd (trips links) few links.next.now links.prior.now tails.reached.now tails.via.now prices.coming.now prices.leaving.now tails.slack.now prices.hull t st sk

  -- among as many tails as there are trips
  pub least_of_trips : (o : Option ℕ) → IsLeast row tails o → Least tails.reached.now (weights row tails.slack.now) tails.via.now (trips links) o
  least_of_trips o l = subst (λ n. Least tails.reached.now (weights row tails.slack.now) tails.via.now n o) sk.searching.reached_long l

  module _ (i : ℕ) (is_least : IsLeast row tails (Some i)) (d : V) (read : d ≡ get_or tails.slack.now i d) where
    pub raise_near : PlacesNear 40000000000000000 (row d)
    raise_near = step_near row count long near net bd (trips links) few links.next.now links.prior.now tails.reached.now tails.via.now prices.coming.now prices.leaving.now tails.slack.now prices.hull t st sk i (least_of_trips (Some i) is_least) d read

    module _ (prices' : Prices V) (tails' : Tails V) (r : AreRaised row links (weight (row d)) prices prices' tails tails') (h' : V) (sum : row h' ≡ kept (added (row prices'.hull) (row d))) where
      -- What holds after the raise, by the slack of the tail i, which is reached after t others.
      pub record After : Type 0 where
        pub coming : TableNear row 40000000000000000 prices'.coming.now
        pub leaving : TableNear row 40000000000000000 prices'.leaving.now
        pub borne : Stands row net (trips links) links.next.now links.prior.now prices'.coming.now prices'.leaving.now h'
        pub price : weight (row h') ≡ (weight (row prices.hull) +ℤ at_z (weights row tails.slack.now) i)
        pub ends : at links.next.now i ≡ 65535 → Tree (weighed net) (trips links) links.prior.now (set tails'.reached.now i t) tails'.via.now (weights row prices'.coming.now) (weights row prices'.leaving.now) (t + 1) × (at (set tails'.reached.now i t) i ≡ t) × Rests row (trips links) prices'.coming.now prices'.leaving.now h'
        pub further : at links.next.now i ≢ 65535 → (j : ℕ) → j ≡ at links.next.now i → (slack'' : List V) (via'' : List ℕ) → length slack'' ≡ trips links → length via'' ≡ trips links
            → Scan (weighed net) j (at_z (weights row prices'.coming.now) j) (weights row prices'.leaving.now) (set tails'.reached.now i t) j (weights row tails'.slack.now) (weights row slack'') tails'.via.now via''
            → Growing row net (trips links) links.next.now links.prior.now (set tails'.reached.now i t) via'' prices'.coming.now prices'.leaving.now slack'' h' (t + 1)

      hull_sum : row h' ≡ kept (added (row prices.hull) (row d))
      hull_sum = sum ∙ ap (λ h. kept (added (row h) (row d))) r.hull

      pub after_raise : After
      after_raise =
          record {
            coming = near_heads_after row count long near net bd (trips links) few links.next.now links.prior.now tails.reached.now tails.via.now prices.coming.now prices.leaving.now tails.slack.now prices.hull t st sk i (least_of_trips (Some i) is_least) d read prices'.coming.now prices'.leaving.now tails'.slack.now h' r.coming_long r.leaving_long r.slack_long hull_sum r.at_heads r.at_tails;
            leaving = near_tails_after row count long near net bd (trips links) few links.next.now links.prior.now tails.reached.now tails.via.now prices.coming.now prices.leaving.now tails.slack.now prices.hull t st sk i (least_of_trips (Some i) is_least) d read prices'.coming.now prices'.leaving.now tails'.slack.now h' r.coming_long r.leaving_long r.slack_long hull_sum r.at_heads r.at_tails;
            borne = stands_to row count long near net bd (trips links) few links.next.now links.prior.now tails.reached.now tails.via.now prices.coming.now prices.leaving.now tails.slack.now prices.hull t st sk i (least_of_trips (Some i) is_least) d read prices'.coming.now prices'.leaving.now tails'.slack.now h' r.coming_long r.leaving_long r.slack_long hull_sum r.at_heads r.at_tails;
            price = hull_to row count long near net bd (trips links) few links.next.now links.prior.now tails.reached.now tails.via.now prices.coming.now prices.leaving.now tails.slack.now prices.hull t st sk i (least_of_trips (Some i) is_least) d read prices'.coming.now prices'.leaving.now tails'.slack.now h' r.coming_long r.leaving_long r.slack_long hull_sum r.at_heads r.at_tails;
            ends = λ none. rw (r.reached, r.via) (ends_to row count long near net bd (trips links) few links.next.now links.prior.now tails.reached.now tails.via.now prices.coming.now prices.leaving.now tails.slack.now prices.hull t st sk i (least_of_trips (Some i) is_least) d read prices'.coming.now prices'.leaving.now tails'.slack.now h' r.coming_long r.leaving_long r.slack_long hull_sum r.at_heads r.at_tails none);
            further = λ some j is slack'' via'' ls lv scanned.
                rw r.reached (further_to row count long near net bd (trips links) few links.next.now links.prior.now tails.reached.now tails.via.now prices.coming.now prices.leaving.now tails.slack.now prices.hull t st sk i (least_of_trips (Some i) is_least) d read prices'.coming.now prices'.leaving.now tails'.slack.now h' r.coming_long r.leaving_long r.slack_long hull_sum r.at_heads r.at_tails some (at_z (weights row prices'.coming.now) (at links.next.now i)) refl slack'' via'' ls lv (rw (r.reached, r.via, is) at scanned));
          }
