-- One more tail of a scan of the links to one head. Assumes nothing.
use Rattle.std.proofs.Common.{◌≡◌, ℕ, ◌+◌, ◌<◌, true, false, ◌≢◌, ◌⊎◌, List, length, get_or, set, ℤ, pos, ◌+ℤ◌, ◌-ℤ◌, ◌≤ℤ◌, Some, None, Option, sym, ap, ◌∙◌, subst, inl, inr, arith, get_or-set_other, get_or-set_same, below_more}
use borrow.Author.Differences.{ints}
use lib.Signed.{lt_z}
use Rattle.std.specs.Option.{option_map}
use Rattle.rows.specs.Places.{added, opposite, kept, below, weight}
use Rattle.duties.specs.Duties.{Net}
use Rattle.matchings.specs.Tables.{at, at_z, Scan}
use Rattle.matchings.specs.Rowed.{place, weights, PlacesNear, TableNear, weighed, Bounded}
use Rattle.matchings.proofs.RowPlaces.{places_near, minus_weight}
use Rattle.matchings.proofs.TableEntries.{weights_length, weights_set, weights_at, places_at, below_weight, value_sum}

-- ---- in weights

module _ (net : Net ℤ) (j : ℕ) (a : ℤ) (b : List ℤ) (reached : List ℕ) (s : List ℤ) (f : List ℕ) (k : ℕ) (t : List ℤ) (g : List ℕ) (h : Scan net j a b reached k s t f g) where
  -- a tail that is reached, or has no link to the head
  pub scan_skip : ((get_or reached k 0 ≡ 65535 → ⊥) ⊎ (net.link k j ≡ None)) → Scan net j a b reached (k + 1) s t f g
  scan_skip skip =
      record {
        done = below_more _ k h.done (record { seen = λ v o e. grind arith; kept = λ _. h.rest k (omega arith) });
        rest = λ i l. h.rest i (omega arith);
      }

  -- a tail that keeps its slack
  pub scan_keep : (v : ℤ) → net.link k j ≡ Some v → (get_or g k 0 ≡ 65535 → ⊥) → get_or t k (pos 0) ≤ℤ ((v -ℤ get_or b k (pos 0)) -ℤ a) → Scan net j a b reached (k + 1) s t f g
  scan_keep v e some least =
      record {
        done = below_more _ k h.done (record { seen = λ v' o e'. record { some = some; least = grind arith; which = inl ((h.rest k (omega arith)).0, (h.rest k (omega arith)).1, grind arith) }; kept = λ _. h.rest k (omega arith) });
        rest = λ i l. h.rest i (omega arith);
      }

  -- a tail that takes the slack of the link
  pub scan_put : (v r : ℤ) → k < length t → k < length g → j ≢ 65535 → get_or reached k 0 ≡ 65535 → net.link k j ≡ Some v → r ≡ ((v -ℤ get_or b k (pos 0)) -ℤ a) → ((get_or g k 0 ≡ 65535) ⊎ (r ≤ℤ get_or t k (pos 0))) → Scan net j a b reached (k + 1) s (set t k r) f (set g k j)
  scan_put v r in_t in_g jn o e is why =
      let et = get_or-set_same t k r (pos 0) in_t in
      let eg = get_or-set_same g k j 0 in_g in
      let old = h.rest k (omega arith) in
      record {
        done = below_more _ k
            (λ i l. let ne : i ≢ k = omega arith in rw (get_or-set_other t k i r (pos 0) ne, get_or-set_other g k i j 0 ne) (h.done i l))
            (record {
              seen = λ v' o' e'. record { some = grind arith; least = grind (arith, ints); which = inr (grind arith, grind arith, grind arith) };
              kept = λ no. let z : ⊥ = grind arith in absurd z;
            });
        rest = λ i l. let ne : i ≢ k = omega arith in rw (get_or-set_other t k i r (pos 0) ne, get_or-set_other g k i j 0 ne) (h.rest i (omega arith));
      }

-- ---- in values

-- where a value is none, so is its weight
pub mapped_none : {V : Type 0} (row : V → List ℤ) (o : Option V) (q : Option (List ℤ)) → option_map row o ≡ q → o ≡ None → option_map weight q ≡ None
mapped_none row o q e f = ap (option_map weight) (sym e ∙ ap (option_map row) f)

module _ {V : Type 0} (row : V → List ℤ) (count : ℕ) (long : (v : V) → length (row v) ≡ count) (near : (v : V) → kept (row v) ≡ row v) where
  module _ (net : Net (List ℤ)) (bounded : Bounded count net) (j : ℕ) (a : V) (b : List V) (reached : List ℕ) (s : List V) (f : List ℕ) (k : ℕ) (t : List V) (g : List ℕ)
      (h : Scan (weighed net) j (weight (row a)) (weights row b) reached k (weights row s) (weights row t) f g)
      (near_a : PlacesNear 40000000000000000 (row a)) (near_b : TableNear row 40000000000000000 b) (lb : k < length b) (lt : k < length t) (lg : k < length g)
      (c x u r : V) (e : net.link k j ≡ Some (row c)) (read : x ≡ get_or b k x) (is_u : row u ≡ kept (added (row c) (opposite (row x)))) (is_r : row r ≡ kept (added (row u) (opposite (row a)))) where
    link_is : (weighed net).link k j ≡ Some (weight (row c))
    link_is = ap (option_map weight) e

    -- what the link costs more than its two prices
    reduced : weight (row r) ≡ ((weight (row c) -ℤ at_z (weights row b) k) -ℤ weight (row a))
    reduced =
        let fc = bounded.link k j (row c) e in
        let lc = places_near 2000000000 (row c) fc.small in
        let lx : PlacesNear 40000000000000000 (row x) = λ q. let n = near_b.all k lb q in let z = places_at row q b k x lb read in (omega (arith, ints), omega (arith, ints)) in
        let wu = minus_weight 2000000000 40000000000000000 (row c) (row x) (row u) (long c ∙ sym (long x)) lc lx (omega arith) is_u in
        let eu : (q : ℕ) → place q (row c) ≡ (place q (row u) +ℤ place q (row x)) = λ q. value_sum row count long near c u x (omega (arith, ints)) q in
        let lu : PlacesNear 40000002000000000 (row u) = λ q. let z = eu q in let y = lc q in let y' = lx q in (omega (arith, ints), omega (arith, ints)) in
        let wr = minus_weight 40000002000000000 40000000000000000 (row u) (row a) (row r) (long u ∙ sym (long a)) lu near_a (omega arith) is_r in
        let wx = weights_at row b k x lb read in
        omega (arith, ints)

    pub scans_put : j ≢ 65535 → at reached k ≡ 65535 → (at g k ≡ 65535) ⊎ ((y : V) × (y ≡ get_or t k y) × (below (row r) (row y) ≡ true)) → Scan (weighed net) j (weight (row a)) (weights row b) reached (k + 1) (weights row s) (weights row (set t k r)) f (set g k j)
    scans_put jn o why =
        let n = weights_length row t in
        subst (λ z. Scan (weighed net) j (weight (row a)) (weights row b) reached (k + 1) (weights row s) z f (set g k j)) (sym (weights_set row t k r))
        (scan_put (weighed net) j (weight (row a)) (weights row b) reached (weights row s) f k (weights row t) g h (weight (row c)) (weight (row r)) (omega arith) lg jn o link_is reduced
        (elim why [
          | inl z ↦ inl z
          | inr z ↦ inr (
              let wy = weights_at row t k z.0 lt z.1 in
              let bl = below_weight row count long near r z.0 in
              let q : lt_z (weight (row r)) (weight (row z.0)) ≡ true = sym bl ∙ z.2 in omega (arith, ints))
        ]))

    pub scans_keep : (at g k ≡ 65535 → ⊥) → (y : V) → y ≡ get_or t k y → below (row r) (row y) ≡ false → Scan (weighed net) j (weight (row a)) (weights row b) reached (k + 1) (weights row s) (weights row t) f g
    scans_keep some y ready why =
        let wy = weights_at row t k y lt ready in
        let bl = below_weight row count long near r y in
        let q : lt_z (weight (row r)) (weight (row y)) ≡ false = sym bl ∙ why in
        let red = reduced in
        scan_keep (weighed net) j (weight (row a)) (weights row b) reached (weights row s) f k (weights row t) g h (weight (row c)) link_is some (omega (arith, ints))
