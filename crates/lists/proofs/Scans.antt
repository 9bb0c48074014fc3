-- A loop that looks for an element that passes a test: what it has not seen yet decides as the whole does. Assumes nothing.
use Rattle.std.proofs.Common.{◌≡◌, ℕ, ◌+◌, ◌<◌, ◌≤◌, Bool, true, false, ◌||◌, List, length, get_or, drop, sym, ap, ◌∙◌}
use Rattle.std.proofs.lemmas.List.{at_drop_more, at_drop_all}
use Rattle.lists.specs.Some.{some_pass}

module _ {X : Type 0} (p : X → Bool) (xs : List X) (i : ℕ) (so : some_pass p (drop i xs) ≡ some_pass p xs) where
  step : (d : X) → i < length xs → some_pass p (drop i xs) ≡ (p (get_or xs i d) || some_pass p (drop (i + 1) xs))
  step d h = at_drop_more (some_pass p) xs i d h

  -- the element at i passes
  pub scan_hit : (d : X) → i < length xs → p (get_or xs i d) ≡ true → some_pass p xs ≡ true
  scan_hit d h t = sym so ∙ step d h ∙ ap (λ b. b || some_pass p (drop (i + 1) xs)) t

  -- the element at i does not
  pub scan_miss : (d : X) → i < length xs → p (get_or xs i d) ≡ false → some_pass p (drop (i + 1) xs) ≡ some_pass p xs
  scan_miss d h t = sym (step d h ∙ ap (λ b. b || some_pass p (drop (i + 1) xs)) t) ∙ so

  -- there are no more
  pub scan_over : length xs ≤ i → some_pass p xs ≡ false
  scan_over h = sym so ∙ at_drop_all (some_pass p) xs i h
