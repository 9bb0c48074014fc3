-- On a board, links go to later positions, since a trip that is linked departs no earlier than the first arrives; and each cost is within the tariff's bounds.
use Rattle.std.proofs.Common.{◌≡◌, ℕ, ◌<◌, ◌≤◌, Bool, true, false, cond, ltb, List, length, get_or, ℤ, Some, None, Option, sym, refl, ap, ◌∙◌, subst, inl, inr, arith, ltb-true}
use Rattle.std.proofs.lemmas.Bool.{cases_lt, cases_eq, and_parts}
use Rattle.std.proofs.lemmas.Bool.Decides.{nat_tests}
use Rattle.std.specs.Option.{option_map}
use Rattle.rows.specs.Places.{Small}
use Rattle.trips.specs.declared.trip.Trip.{Trip}
use Rattle.trips.specs.Default.{no_trip}
use Rattle.board.specs.Order.{before}
use Rattle.board.specs.Ranges.{in_range, departs_first}
use Rattle.board.specs.Standing.{Standing}
use Rattle.matchings.specs.Rowed.{Bounded}
use Rattle.plans.specs.Terms.{Terms, day_of}

-- a trip that stands before another departs no later
departs_no_later : (a b : Trip) → before a b ≡ true → a.departure ≤ b.departure
departs_no_later a b e = grind (arith, nat_tests)

-- a link of the day is one of the rule, between trips that stand
some_link : (links : ℕ → List ℤ) (r : List ℤ) (t u : Bool) (o : Option ℕ) → option_map links (cond t (cond u o None) None) ≡ Some r → (t ≡ true) × (u ≡ true) × ((n : ℕ) × (o ≡ Some n) × (r ≡ links n))
some_link links r true true None e = let z : ◌≡◌ {A = ℕ} 0 1 = cc in absurd (omega arith)
some_link links r true true (Some n) e = (refl, refl, (n, refl, (let z : r ≡ links n = cc in z)))
some_link links r true false o e = let z : ◌≡◌ {A = ℕ} 0 1 = cc in absurd (omega arith)
some_link links r false u o e = let z : ◌≡◌ {A = ℕ} 0 1 = cc in absurd (omega arith)

module _ (terms : Terms) (ts : List Trip) (st : Standing ts) (forward : (a b : Trip) (n : ℕ) → terms.link a b ≡ Some n → a.arrival ≤ b.departure) where
  -- a link goes forward in board order
  link_forward : (i j n : ℕ) → i < length ts → j < length ts → terms.link (get_or ts i no_trip) (get_or ts j no_trip) ≡ Some n → i < j
  link_forward i j n li lj e =
      let f = forward (get_or ts i no_trip) (get_or ts j no_trip) n e in
      let d : (get_or ts i no_trip).departure < (get_or ts i no_trip).arrival = ltb-true _ _ (and_parts (in_range (get_or ts i no_trip)) (departs_first (get_or ts i no_trip)) (st.sound i li)).1 in
      elim (cases_lt i j) [
        | inl l ↦ l
        | inr g ↦ elim (cases_eq j i) [
          | inl q ↦ let z : (get_or ts j no_trip).departure ≡ (get_or ts i no_trip).departure = ap (λ k. (get_or ts k no_trip).departure) q in absurd (omega arith)
          | inr ne ↦ let z = departs_no_later (get_or ts j no_trip) (get_or ts i no_trip) (st.ordered j i (omega arith, li)) in absurd (omega arith)
        ]
      ]

  pub day_bounded : ((fee n : ℕ) → length (terms.opens fee n) ≡ terms.places) → ((n : ℕ) → length (terms.links n) ≡ terms.places) → ((n : ℕ) → length (terms.homes n) ≡ terms.places)
      → ((fee n : ℕ) → Small 2000000000 (terms.opens fee n)) → ((n : ℕ) → Small 2000000000 (terms.links n)) → ((n : ℕ) → Small 2000000000 (terms.homes n))
      → Bounded terms.places (day_of terms ts)
  day_bounded lo ll lh so sl sh =
      record {
        forward = λ i j r e.
            let s = some_link terms.links r (ltb i (length ts)) (ltb j (length ts)) (terms.link (get_or ts i no_trip) (get_or ts j no_trip)) e in
            link_forward i j s.2.0 (ltb-true _ _ s.0) (ltb-true _ _ s.1) s.2.1;
        link = λ i j r e.
            let s = some_link terms.links r (ltb i (length ts)) (ltb j (length ts)) (terms.link (get_or ts i no_trip) (get_or ts j no_trip)) e in
            let q = s.2.2 in
            record { long = ap length q ∙ ll s.2.0; small = subst (Small 2000000000) (sym q) (sl s.2.0) };
        opens = λ j. record { long = lo _ _; small = so _ _ };
        homes = λ i. record { long = lh _; small = sh _ };
      }
