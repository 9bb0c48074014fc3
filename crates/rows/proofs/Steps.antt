-- Loops that write over each place of a row: the step, and the end. Assumes nothing.
use Rattle.std.proofs.Common.{◌≡◌, ℕ, zero, suc, ◌+◌, ◌<◌, ◌≤◌, List, [], ◌∷◌, ◌++◌, map, length, get_or, take, drop, set, ℤ, pos, ◌+ℤ◌, ◌*ℤ◌, sym, refl, ap, ◌∙◌, add-one, arith}
use Rattle.std.specs.Int.{saturate_to_bits}
use Rattle.std.proofs.lemmas.List.{append-nil, drop_all, take_all}
use Rattle.rows.specs.Places.{added, opposite, scaled, most, held, kept}
use Rattle.rows.proofs.Bounds.{held_saturated, kept_kept, kept_same, small_opposite, small_from_kept}

-- ---- each place is written over with what f makes of it

-- the places from i on are still as they were
still : (f : ℤ → ℤ) (xs : List ℤ) (i : ℕ) → get_or (map f (take i xs) ++ drop i xs) i (pos 0) ≡ get_or xs i (pos 0)
still f [] zero = refl
still f [] (suc i) = refl
still f (x ∷ xs) zero = refl
still f (x ∷ xs) (suc i) = still f xs i

pub mapped_still : (f : ℤ → ℤ) (xs zs : List ℤ) (i : ℕ) → zs ≡ map f (take i xs) ++ drop i xs → get_or zs i (pos 0) ≡ get_or xs i (pos 0)
mapped_still f xs zs i e = ap (λ l. get_or l i (pos 0)) e ∙ still f xs i

mapped_step : (f : ℤ → ℤ) (xs : List ℤ) (i : ℕ) → i < length xs → set (map f (take i xs) ++ drop i xs) i (f (get_or xs i (pos 0))) ≡ map f (take (suc i) xs) ++ drop (suc i) xs
mapped_step f [] i l = absurd (omega arith)
mapped_step f (x ∷ xs) zero l = refl
mapped_step f (x ∷ xs) (suc i) l = ap (λ t. f x ∷ t) (mapped_step f xs i (omega arith))

-- one more place is written
pub mapped_more : (f : ℤ → ℤ) (xs zs : List ℤ) (i : ℕ) (v : ℤ) → i < length xs → zs ≡ map f (take i xs) ++ drop i xs → v ≡ f (get_or zs i (pos 0)) → set zs i v ≡ map f (take (i + 1) xs) ++ drop (i + 1) xs
mapped_more f xs zs i v l e h = rw (add-one, h, mapped_still f xs zs i e, e) (mapped_step f xs i l)

-- all are written
pub mapped_all : (f : ℤ → ℤ) (xs zs : List ℤ) (n : ℕ) → length xs ≤ n → zs ≡ map f (take n xs) ++ drop n xs → zs ≡ map f xs
mapped_all f xs zs n l e = e ∙ ap (λ t. map f t ++ drop n xs) (take_all n xs l) ∙ ap (λ t. map f xs ++ t) (drop_all n xs l) ∙ append-nil (map f xs)

-- ---- each place is written over with its sum with another's

added_still : (xs ys : List ℤ) (i : ℕ) → length xs ≡ length ys → get_or (added (take i xs) ys ++ drop i xs) i (pos 0) ≡ get_or xs i (pos 0)
added_still [] ys zero e = refl
added_still [] ys (suc i) e = refl
added_still (x ∷ xs) ys zero e = refl
added_still (x ∷ xs) [] (suc i) e = absurd (omega arith)
added_still (x ∷ xs) (y ∷ ys) (suc i) e = added_still xs ys i (omega arith)

pub sums_still : (xs ys zs : List ℤ) (i : ℕ) → length xs ≡ length ys → zs ≡ added (take i xs) ys ++ drop i xs → get_or zs i (pos 0) ≡ get_or xs i (pos 0)
sums_still xs ys zs i l e = ap (λ l. get_or l i (pos 0)) e ∙ added_still xs ys i l

added_step : (xs ys : List ℤ) (i : ℕ) → i < length xs → length xs ≡ length ys → set (added (take i xs) ys ++ drop i xs) i (get_or xs i (pos 0) +ℤ get_or ys i (pos 0)) ≡ added (take (suc i) xs) ys ++ drop (suc i) xs
added_step [] ys i l e = absurd (omega arith)
added_step (x ∷ xs) [] i l e = absurd (omega arith)
added_step (x ∷ xs) (y ∷ ys) zero l e = refl
added_step (x ∷ xs) (y ∷ ys) (suc i) l e = ap (λ t. (x +ℤ y) ∷ t) (added_step xs ys i (omega arith) (omega arith))

pub sums_more : (xs ys zs : List ℤ) (i : ℕ) (v : ℤ) → i < length xs → length xs ≡ length ys → zs ≡ added (take i xs) ys ++ drop i xs → v ≡ get_or xs i (pos 0) +ℤ get_or ys i (pos 0) → set zs i v ≡ added (take (i + 1) xs) ys ++ drop (i + 1) xs
sums_more xs ys zs i v l long e h = rw (add-one, h, e) (added_step xs ys i l long)

pub sums_all : (xs ys zs : List ℤ) (n : ℕ) → length xs ≤ n → zs ≡ added (take n xs) ys ++ drop n xs → zs ≡ added xs ys
sums_all xs ys zs n l e = e ∙ ap (λ t. added t ys ++ drop n xs) (take_all n xs l) ∙ ap (λ t. added xs ys ++ t) (drop_all n xs l) ∙ append-nil (added xs ys)

-- ---- what the bound makes of the results

-- what the bound was put on once, it leaves as it is
pub kept_from : (out zs : List ℤ) → out ≡ kept zs → kept out ≡ out
kept_from out zs e = ap kept e ∙ kept_kept zs ∙ sym e

pub kept_opposite : (xs out : List ℤ) → kept xs ≡ xs → out ≡ opposite xs → kept out ≡ out
kept_opposite xs out e f = ap kept f ∙ kept_same (opposite xs) (small_opposite most xs (small_from_kept xs e)) ∙ sym f

-- products that are first held within 64 bits
pub kept_saturated : (by : ℤ) (xs : List ℤ) → kept (map (λ x. saturate_to_bits 63 (x *ℤ by)) xs) ≡ kept (scaled by xs)
kept_saturated by [] = refl
kept_saturated by (x ∷ xs) =
    ap (λ y. y ∷ kept (map (λ x. saturate_to_bits 63 (x *ℤ by)) xs)) (held_saturated (x *ℤ by)) ∙ ap (λ ys. held (x *ℤ by) ∷ ys) (kept_saturated by xs)
