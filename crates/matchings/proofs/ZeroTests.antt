-- How a row, or the sum of two, stands to zero, by the weight. Assumes nothing.
use Rattle.std.proofs.Common.{◌≡◌, ℕ, Bool, true, false, List, length, replicate, ℤ, pos, ◌+ℤ◌, ◌≤ℤ◌, ◌<ℤ◌, sym, ap, ◌∙◌, arith}
use borrow.Author.Differences.{ints}
use lib.Signed.{lt_z}
use Rattle.rows.specs.Places.{added, kept, below, weight}
use Rattle.matchings.specs.Rowed.{PlacesNear}
use Rattle.matchings.proofs.RowPlaces.{plus_weight, weight_zeros}
use Rattle.matchings.proofs.TableEntries.{below_weight}

module _ {V : Type 0} (row : V → List ℤ) (count : ℕ) (long : (v : V) → length (row v) ≡ count) (near : (v : V) → kept (row v) ≡ row v) where
  -- whether a sum is above zero
  pub sum_above_zero : (h d z s : V) (r : Bool) → PlacesNear 40000000000000000 (row h) → PlacesNear 40000000000000000 (row d) → row z ≡ replicate count (pos 0) → row s ≡ kept (added (row h) (row d)) → r ≡ below (row z) (row s) → r ≡ lt_z (pos 0) (weight (row h) +ℤ weight (row d))
  sum_above_zero h d z s r nh nd ez es er =
      let w = plus_weight 40000000000000000 40000000000000000 (row h) (row d) (row s) (long h ∙ sym (long d)) nh nd (omega arith) es in
      let b = below_weight row count long near z s in
      let wz : weight (row z) ≡ pos 0 = ap weight ez ∙ weight_zeros count in
      er ∙ b ∙ ap (λ x. lt_z x (weight (row s))) wz ∙ ap (λ x. lt_z (pos 0) x) w

  -- whether a row is below zero
  pub below_zero : (h z : V) (r : Bool) → row z ≡ replicate count (pos 0) → r ≡ below (row h) (row z) → (r ≡ true → weight (row h) <ℤ pos 0) × (r ≡ false → pos 0 ≤ℤ weight (row h))
  below_zero h z r ez er =
      let b = below_weight row count long near h z in
      let wz : weight (row z) ≡ pos 0 = ap weight ez ∙ weight_zeros count in
      (λ t. let f : lt_z (weight (row h)) (weight (row z)) ≡ true = sym b ∙ sym er ∙ t in omega (arith, ints), λ t. let f : lt_z (weight (row h)) (weight (row z)) ≡ false = sym b ∙ sym er ∙ t in omega (arith, ints))
