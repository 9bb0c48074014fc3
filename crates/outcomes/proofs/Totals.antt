-- One price more: in the sum of all, and in the table of prices.
use Rattle.std.proofs.Common.{◌≡◌, ℕ, zero, suc, ◌+◌, ◌*◌, ◌<◌, ◌≢◌, List, [], ◌∷◌, length, get_or, set, replicate, ℤ, pos, ◌+ℤ◌, sym, refl, ap, ◌∙◌, arith, get_or-set_other, get_or-set_same, below_more}
use borrow.Author.Differences.{ints}
use Rattle.rows.specs.Places.{added, kept, weight}
use Rattle.duties.specs.Duties.{wholes, sum_over, below as upto}
use Rattle.duties.proofs.Places.{sum_below_more}
use Rattle.matchings.specs.Tables.{at_z}
use Rattle.matchings.specs.Rowed.{place, weights, PlacesNear, TableNear}
use Rattle.matchings.proofs.RowPlaces.{plus_weight, weight_zeros, place_zeros}
use Rattle.matchings.proofs.TableEntries.{weights_at, weights_set, weights_length, value_sum, near_read}
use Rattle.outcomes.specs.Passes.{Totalled, Priced}

module _ {V : Type 0} (row : V → List ℤ) (count : ℕ) (long : (v : V) → length (row v) ≡ count) (near : (v : V) → kept (row v) ≡ row v) (a b : List V) where
  -- what a trip's two prices come to
  module _ (k : ℕ) (la : k < length a) (lb : k < length b) (na : TableNear row 32012000000000 a) (nb : TableNear row 32012000000000 b)
      (x y v : V) (ex : x ≡ get_or a k x) (ey : y ≡ get_or b k y) (ev : row v ≡ kept (added (row x) (row y))) where
    price_weighs : weight (row v) ≡ (at_z (weights row a) k +ℤ at_z (weights row b) k)
    price_weighs =
        let nx = near_read row 32012000000000 a k x la ex na in
        let ny = near_read row 32012000000000 b k y lb ey nb in
        let wx = weights_at row a k x la ex in
        let wy = weights_at row b k y lb ey in
        let wv = plus_weight 32012000000000 32012000000000 (row x) (row y) (row v) (long x ∙ sym (long y)) nx ny (omega arith) ev in
        omega (arith, ints)

    price_near : PlacesNear 64024000000000 (row v)
    price_near q =
        let nx = near_read row 32012000000000 a k x la ex na in
        let ny = near_read row 32012000000000 b k y lb ey nb in
        let wv = plus_weight 32012000000000 32012000000000 (row x) (row y) (row v) (long x ∙ sym (long y)) nx ny (omega arith) ev in
        let z = value_sum row count long near v x y wv q in
        let zx = nx q in
        let zy = ny q in
        (omega (arith, ints), omega (arith, ints))

    pub totalled_more : (s t : V) → k < 200 → Totalled row a b k s → row t ≡ kept (added (row s) (row v)) → Totalled row a b (k + 1) t
    totalled_more s t few h et =
        let wt = plus_weight (k * 64024000000000) 64024000000000 (row s) (row v) (row t) (long s ∙ sym (long v)) h.near price_near (omega arith) et in
        let wv = price_weighs in
        let hs = h.sum in
        let f : ℕ → ℤ = λ i. at_z (weights row a) i +ℤ at_z (weights row b) i in
        record {
          sum = (let z : weight (row t) ≡ (at_z (weights row a) k +ℤ at_z (weights row b) k) +ℤ sum_over wholes f (upto k) = omega (arith, ints) in z) ∙ sym (sum_below_more f k);
          near = λ q. let z = value_sum row count long near t s v wt q in let zs = h.near q in let zv = price_near q in (omega (arith, ints), omega (arith, ints));
        }

    pub priced_more : (prices : List V) → k < length prices → Priced row a b k prices → Priced row a b (k + 1) (set prices k v)
    priced_more prices lp h =
        let wp = weights_length row prices in
        let lp' : k < length (weights row prices) = omega arith in
        record {
          each = below_more _ k
              (λ j l. let ne : j ≢ k = omega arith in ap (λ zs. at_z zs j) (weights_set row prices k v) ∙ get_or-set_other (weights row prices) k j (weight (row v)) (pos 0) ne ∙ h.each j l)
              (ap (λ zs. at_z zs k) (weights_set row prices k v) ∙ get_or-set_same (weights row prices) k (weight (row v)) (pos 0) lp' ∙ price_weighs);
        }

  pub totalled_none : (z : V) → row z ≡ replicate count (pos 0) → Totalled row a b 0 z
  totalled_none z e =
      record {
        sum = ap weight e ∙ weight_zeros count;
        near = λ q. let y : place q (row z) ≡ pos 0 = ap (place q) e ∙ place_zeros q count in (omega (arith, ints), omega (arith, ints));
      }

  pub priced_none : (prices : List V) → Priced row a b 0 prices
  priced_none prices = record { each = λ i l. absurd (omega arith) }

-- the two prices of each trip together, as rows
abbrev pub summed : {V : Type 0} → (V → List ℤ) → List V → List V → List (List ℤ)
summed row [] bs = []
summed row (x ∷ xs) [] = []
summed row (x ∷ xs) (y ∷ ys) = added (row x) (row y) ∷ summed row xs ys

pub length_summed : {V : Type 0} (row : V → List ℤ) (a b : List V) → length a ≡ length b → length (summed row a b) ≡ length a
length_summed row [] b e = refl
length_summed row (x ∷ xs) [] e = absurd (omega arith)
length_summed row (x ∷ xs) (y ∷ ys) e = ap suc (length_summed row xs ys (omega arith))

pub summed_at : {V : Type 0} (row : V → List ℤ) (a b : List V) (k : ℕ) (d : V) → k < length a → k < length b → get_or (summed row a b) k [] ≡ added (row (get_or a k d)) (row (get_or b k d))
summed_at row [] b k d la lb = absurd (omega arith)
summed_at row (x ∷ xs) [] k d la lb = absurd (omega arith)
summed_at row (x ∷ xs) (y ∷ ys) zero d la lb = refl
summed_at row (x ∷ xs) (y ∷ ys) (suc k) d la lb = summed_at row xs ys k d (omega arith) (omega arith)
