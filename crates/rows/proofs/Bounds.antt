-- How far the places of a row may lie, and when the bound of ±10^17 changes nothing. Assumes nothing.
use Rattle.std.proofs.Common.{◌≡◌, ℕ, zero, suc, ◌+◌, ◌<◌, ◌≤◌, List, [], ◌∷◌, length, get_or, replicate, ℤ, pos, negsuc, refl, ap, ◌∙◌, subst, arith}
use borrow.Author.Differences.{ints}
use Rattle.std.specs.Int.{saturate_to_bits}
use Rattle.std.proofs.lemmas.Int.{clamps}
use Rattle.std.proofs.ByRecursion.{All-weaker, All-get_or}
use Rattle.rows.specs.Places.{added, opposite, most, held, kept, Near, Small}
use Rattle.rows.specs.Laws.{HeldRight}

-- ---- one place

-- what the bound gives lies within it
held_near : (z : ℤ) → Near most (held z)
held_near z = (omega (arith, ints, clamps), omega (arith, ints, clamps))

-- the bound holds every number as it should
pub held_right : (z : ℤ) → HeldRight z
held_right z = record {
  exact = λ h. omega (arith, ints, clamps);
  over = λ h. omega (arith, ints, clamps);
  under = λ h. omega (arith, ints, clamps);
}

-- a number that is first held within 64 bits
pub held_saturated : (z : ℤ) → held (saturate_to_bits 63 z) ≡ held z
held_saturated (pos n) = omega (arith, ints, clamps)
held_saturated (negsuc n) = omega (arith, ints, clamps)

-- ---- rows

kept_small : (xs : List ℤ) → Small most (kept xs)
kept_small [] = tt
kept_small (x ∷ xs) = (held_near x, kept_small xs)

-- the bound changes nothing within it
pub kept_same : (xs : List ℤ) → Small most xs → kept xs ≡ xs
kept_same [] h = refl
kept_same (x ∷ xs) h = ap (λ y. y ∷ kept xs) ((held_right x).exact h.0) ∙ ap (λ ys. x ∷ ys) (kept_same xs h.1)

-- the bound changes nothing a second time
pub kept_kept : (xs : List ℤ) → kept (kept xs) ≡ kept xs
kept_kept xs = kept_same (kept xs) (kept_small xs)

-- a row that the bound leaves as it is lies within it
pub small_from_kept : (xs : List ℤ) → kept xs ≡ xs → Small most xs
small_from_kept xs e = subst (Small most) e (kept_small xs)

-- a place of a row that the bound leaves as it is
pub near_at : (xs : List ℤ) → kept xs ≡ xs → (k : ℕ) → k < length xs → Near most (get_or xs k (pos 0))
near_at xs e k l = All-get_or (Near most) xs k (pos 0) l (small_from_kept xs e)

-- a wider bound
pub small_weaker : (p q : ℕ) → p ≤ q → (xs : List ℤ) → Small p xs → Small q xs
small_weaker p q l xs = All-weaker (Near p) (Near q) (λ x h. (omega (arith, ints), omega (arith, ints))) xs

pub small_added : (p q : ℕ) (xs ys : List ℤ) → Small p xs → Small q ys → Small (p + q) (added xs ys)
small_added p q [] ys h k = tt
small_added p q (x ∷ xs) [] h k = tt
small_added p q (x ∷ xs) (y ∷ ys) h k = ((omega (arith, ints), omega (arith, ints)), small_added p q xs ys h.1 k.1)

-- sums of places that lie near enough are exact
pub kept_added : (p q : ℕ) (xs ys : List ℤ) → Small p xs → Small q ys → p + q ≤ most → kept (added xs ys) ≡ added xs ys
kept_added p q xs ys h k l = kept_same (added xs ys) (small_weaker (p + q) most l (added xs ys) (small_added p q xs ys h k))

pub small_opposite : (q : ℕ) (xs : List ℤ) → Small q xs → Small q (opposite xs)
small_opposite q [] h = tt
small_opposite q (x ∷ xs) h = ((omega (arith, ints), omega (arith, ints)), small_opposite q xs h.1)

pub small_filled : (q n : ℕ) (y : ℤ) → Near q y → Small q (replicate n y)
small_filled q zero y h = tt
small_filled q (suc n) y h = (h, small_filled q n y h)

pub kept_filled : (n : ℕ) (y : ℤ) → Near most y → kept (replicate n y) ≡ replicate n y
kept_filled n y h = kept_same (replicate n y) (small_filled most n y h)

-- a sum is as long as its rows
pub length_added : (xs ys : List ℤ) → length xs ≡ length ys → length (added xs ys) ≡ length xs
length_added [] ys e = refl
length_added (x ∷ xs) [] e = absurd (omega arith)
length_added (x ∷ xs) (y ∷ ys) e = omega (arith, length_added xs ys (omega arith))
