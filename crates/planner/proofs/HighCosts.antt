-- A cost looked at place by place. Assumes nothing.
use Rattle.std.proofs.Common.{◌≡◌, ℕ, ◌+◌, ◌≤◌, true, false, ◌||◌, List, length, drop, ℤ, pos, sym, ap, ◌∙◌, inl, inr, arith}
use Rattle.std.specs.List.{slice_get}
use Rattle.std.proofs.lemmas.List.{at_drop_more, at_drop_all}
use Rattle.std.proofs.lemmas.Option.{slice_get-get_or, slice_get_past}
use Rattle.std.proofs.lemmas.Bool.{cases_lt}
use Rattle.plans.specs.Answers.{cost_high}
use Rattle.planner.specs.Costs.{past_place}

-- what is left from a place on
high_from : (xs : List ℤ) (i : ℕ) → cost_high (drop i xs) ≡ (past_place (slice_get xs i) || cost_high (drop (i + 1) xs))
high_from xs i =
    elim (cases_lt i (length xs)) [
      | inl l ↦ at_drop_more cost_high xs i (pos 0) l ∙ ap (λ o. past_place o || cost_high (drop (i + 1) xs)) (sym (slice_get-get_or xs i (pos 0) l))
      | inr g ↦
          at_drop_all cost_high xs i (omega arith) ∙ sym (at_drop_all cost_high xs (i + 1) (omega arith))
          ∙ ap (λ o. past_place o || cost_high (drop (i + 1) xs)) (sym (slice_get_past xs i (omega arith)))
    ]

-- a place past the most decides
pub high_found : (xs : List ℤ) (i : ℕ) → past_place (slice_get xs i) ≡ true → cost_high (drop i xs) ≡ true
high_found xs i h = high_from xs i ∙ ap (λ b. b || cost_high (drop (i + 1) xs)) h

-- another goes on
pub high_further : (xs : List ℤ) (i : ℕ) → past_place (slice_get xs i) ≡ false → cost_high (drop (i + 1) xs) ≡ cost_high (drop i xs)
high_further xs i h = sym (high_from xs i ∙ ap (λ b. b || cost_high (drop (i + 1) xs)) h)

-- past the last place none is left
pub high_end : (xs : List ℤ) (i : ℕ) → length xs ≤ i → cost_high (drop i xs) ≡ cost_high xs → false ≡ cost_high xs
high_end xs i l e = sym (at_drop_all cost_high xs i l) ∙ e
