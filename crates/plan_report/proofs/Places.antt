-- A loop that asks for one place of a list after the other, until there is none. Assumes nothing.
use Rattle.std.proofs.Common.{◌≡◌, ℕ, zero, suc, ◌+◌, ◌-◌, ◌<◌, List, [], ◌∷◌, ◌++◌, length, get_or, drop, ℤ, Some, None, sym, refl, ap, ◌∙◌, ⊎_elim, arith}
use Rattle.std.specs.List.{slice_get}
use Rattle.std.proofs.lemmas.List.{drop_more}
use Rattle.std.proofs.lemmas.Option.{slice_get-get_or, slice_get_past as nth_past}
use Rattle.std.proofs.lemmas.Bool.{cases_lt}
use Rattle.plan_report.specs.Lines.{place_text, places_text}

module _ {X : Type 0} (xs : List X) (i : ℕ) where
  -- a place that was found is within the list
  place_within : (x : X) → Some x ≡ slice_get xs i → i < length xs
  place_within x e =
      ⊎_elim (λ h. h) (λ past. let n = nth_past xs i past in cc) (cases_lt i (length xs))

  -- and is the first of those from there on
  place_more : (x : X) → Some x ≡ slice_get xs i → drop i xs ≡ x ∷ drop (i + 1) xs
  place_more x e =
      let h : i < length xs = place_within x e in
      let n = slice_get-get_or xs i x h in
      let is : get_or xs i x ≡ x = cc in
      drop_more xs i x h ∙ ap (λ y. y ∷ drop (i + 1) xs) is

-- a place that was not found is past the end
pub place_none : {X : Type 0} (xs : List X) (i : ℕ) → None ≡ slice_get xs i → drop i xs ≡ []
place_none [] zero e = refl
place_none [] (suc i) e = refl
place_none (x ∷ xs) zero e = cc
place_none (x ∷ xs) (suc i) e = place_none xs i e

-- the text of the places from i on, where the place at i was found
pub places_more : (xs : List ℤ) (i j : ℕ) (x y : ℤ) → Some x ≡ slice_get xs i → y ≡ x → j ≡ i + 1 → places_text (drop i xs) ≡ place_text y ++ places_text (drop j xs)
places_more xs i j x y e same on =
    ap places_text (place_more xs i x e) ∙ ap (λ z. place_text z ++ places_text (drop (i + 1) xs)) (sym same) ∙ ap (λ k. place_text y ++ places_text (drop k xs)) (sym on)

-- one place on, fewer are left
pub places_less : {X : Type 0} (xs : List X) (i j : ℕ) (x : X) → Some x ≡ slice_get xs i → j ≡ i + 1 → length xs - j < length xs - i
places_less xs i j x e on = let h = place_within xs i x e in omega arith
