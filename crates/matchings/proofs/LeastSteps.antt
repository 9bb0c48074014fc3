-- One more tail of the look for the least slack. Assumes nothing.
use Rattle.std.proofs.Common.{◌≡◌, ℕ, ◌+◌, ◌<◌, ◌≤◌, true, false, ◌⊎◌, List, length, get_or, ℤ, ◌≤ℤ◌, Some, None, Option, sym, ap, ◌∙◌, subst, inl, inr, arith}
use borrow.Author.Differences.{ints}
use lib.Signed.{lt_z}
use Rattle.std.proofs.lemmas.Bool.{cases_lt}
use Rattle.rows.specs.Places.{kept, below, weight}
use Rattle.matchings.specs.Tables.{at, at_z, Least}
use Rattle.matchings.specs.Rowed.{weights}
use Rattle.matchings.proofs.TableEntries.{weights_at, below_weight}

edges : (i k : ℕ) → i < k + 1 → (i < k) ⊎ (i ≡ k)
edges i k l = elim (cases_lt i k) [ inl u ↦ inl u | inr u ↦ inr (omega arith) ]

module _ {V : Type 0} (row : V → List ℤ) (count : ℕ) (long : (v : V) → length (row v) ≡ count) (near : (v : V) → kept (row v) ≡ row v) where
  module _ (reached via : List ℕ) (slack : List V) (k : ℕ) where
    -- a tail that is reached, or has no slack
    pub least_skip : (r : Option ℕ) → Least reached (weights row slack) via k r → ((at reached k ≡ 65535 → ⊥) ⊎ (at via k ≡ 65535)) → Least reached (weights row slack) via (k + 1) r
    least_skip None h nay = λ i l o. elim nay [ inl f ↦ elim (edges i k l) [ inl u ↦ h i u o | inr u ↦ absurd (f (sym (ap (at reached) u) ∙ o)) ] | inr f ↦ elim (edges i k l) [ inl u ↦ h i u o | inr u ↦ ap (at via) u ∙ f ] ]
    least_skip (Some m) h nay = (omega arith, h.1, h.2, λ i l o f. h.3 i (elim (edges i k l) [ inl u ↦ u | inr u ↦ elim nay [ inl z ↦ absurd (z (sym (ap (at reached) u) ∙ o)) | inr z ↦ absurd (f (ap (at via) u ∙ z)) ] ]) o f)

    -- the first tail that counts
    pub least_first : (best : Option ℕ) → best ≡ None → at reached k ≡ 65535 → (at via k ≡ 65535 → ⊥) → Least reached (weights row slack) via k best → Least reached (weights row slack) via (k + 1) (Some k)
    least_first best eb o f h₀ =
        let h : Least reached (weights row slack) via k None = subst (λ z. Least reached (weights row slack) via k z) eb h₀ in
        (omega arith, o, f, λ i l o' f'. elim (edges i k l) [ inl u ↦ absurd (f' (h i u o')) | inr u ↦ subst (λ z. at_z (weights row slack) k ≤ℤ at_z (weights row slack) z) (sym u) (omega (arith, ints)) ])

    module _ (best : Option ℕ) (m : ℕ) (eb : best ≡ Some m) (x y : V) (o : at reached k ≡ 65535) (f : at via k ≡ 65535 → ⊥) (lk : k < length slack) (lm : k ≤ length slack) (ex : x ≡ get_or slack k x) (ey : y ≡ get_or slack m y) (h₀ : Least reached (weights row slack) via k best) where
      here : Least reached (weights row slack) via k (Some m)
      here = subst (λ z. Least reached (weights row slack) via k z) eb h₀

      -- a tail of less slack
      pub least_better : below (row x) (row y) ≡ true → Least reached (weights row slack) via (k + 1) (Some k)
      least_better q =
          let h = here in
          let lm' : m < length slack = let z = h.0 in omega arith in
          let wx = weights_at row slack k x lk ex in
          let wy = weights_at row slack m y lm' ey in
          let b = below_weight row count long near x y in
          let z : at_z (weights row slack) k ≤ℤ at_z (weights row slack) m = let c : lt_z (weight (row x)) (weight (row y)) ≡ true = sym b ∙ q in omega (arith, ints) in (
            omega arith,
            o,
            f,
            λ i l o' f'.
                elim (edges i k l) [ inl u ↦ let v = h.3 i u o' f' in omega (arith, ints) | inr u ↦ subst (λ z. at_z (weights row slack) k ≤ℤ at_z (weights row slack) z) (sym u) (omega (arith, ints)) ],
          )

      -- a tail of no less slack
      pub least_keep : below (row x) (row y) ≡ false → Least reached (weights row slack) via (k + 1) (Some m)
      least_keep q =
          let h = here in
          let lm' : m < length slack = let z = h.0 in omega arith in
          let wx = weights_at row slack k x lk ex in
          let wy = weights_at row slack m y lm' ey in
          let b = below_weight row count long near x y in
          let z : at_z (weights row slack) m ≤ℤ at_z (weights row slack) k = let c : lt_z (weight (row x)) (weight (row y)) ≡ false = sym b ∙ q in omega (arith, ints) in (
            let y = h.0 in omega arith,
            h.1,
            h.2,
            λ i l o' f'.
                elim (edges i k l) [ inl u ↦ h.3 i u o' f' | inr u ↦ subst (λ z. at_z (weights row slack) m ≤ℤ at_z (weights row slack) z) (sym u) z ],
          )
