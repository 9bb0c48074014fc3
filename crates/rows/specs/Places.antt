-- Rows of whole numbers as lists: sums place by place, the bound, the order, and one number that stands for a row. Assumes nothing.
use Rattle.std.specs.Prelude.{◌≡◌, ℕ, Bool, true, false, cond, List, [], ◌∷◌, map, ℤ, pos, ◌+ℤ◌, ◌*ℤ◌, neg_ℤ, ◌≤ℤ◌, int_lt}
use Rattle.std.specs.declared.cmp.Ordering.{Ordering}
use Rattle.std.specs.Ordering.{MatchOrdering}
use Rattle.std.specs.Int.{int_max, int_min}
use Rattle.std.specs.List.{AllByRecursion}

-- ---- exact, place by place

-- the sum of two rows; of rows of two lengths, as far as the shorter goes
abbrev pub added : List ℤ → List ℤ → List ℤ
added [] ys = []
added (x ∷ xs) [] = []
added (x ∷ xs) (y ∷ ys) = (x +ℤ y) ∷ added xs ys

-- the other side of zero
abbrev pub opposite : List ℤ → List ℤ
opposite xs = map neg_ℤ xs

-- the k-fold
abbrev pub scaled : ℤ → List ℤ → List ℤ
scaled k xs = map (λ x. x *ℤ k) xs

-- ---- the bound

-- how far from zero a place may lie: 10^17
abbrev pub most : ℕ
most = 100000000000000000

-- a number past the bound stays at the bound
abbrev pub held : ℤ → ℤ
held z = int_max (neg_ℤ (pos most)) (int_min z (pos most))

-- a row, each place held within the bound
abbrev pub kept : List ℤ → List ℤ
kept xs = map held xs

-- a number within ±q
abbrev pub Near : ℕ → ℤ → Type 0
Near q z = (neg_ℤ (pos q) ≤ℤ z) × (z ≤ℤ pos q)

-- a row, each place within ±q
abbrev pub Small : ℕ → List ℤ → Type 0
Small q xs = AllByRecursion (Near q) xs

-- ---- the order

-- whether a row comes before another: the first place that differs decides
abbrev pub below : List ℤ → List ℤ → Bool
below [] [] = false
below [] (y ∷ ys) = true
below (x ∷ xs) [] = false
below (x ∷ xs) (y ∷ ys) = cond (int_lt x y) true (cond (int_lt y x) false (below xs ys))

-- how two rows stand: below, the same, or above
abbrev pub Standing : List ℤ → List ℤ → Ordering → Type 0
Standing xs ys o = MatchOrdering o (below xs ys ≡ true) (xs ≡ ys) (below ys xs ≡ true)

-- ---- one number for a row: its places as digits to the base 10^40

-- one more digit
abbrev pub shift : ℤ → ℤ → ℤ
shift a x = a *ℤ pos 10000000000000000000000000000000000000000 +ℤ x

-- the digits of a row, after what stands before them
abbrev pub weigh : ℤ → List ℤ → ℤ
weigh a [] = a
weigh a (x ∷ xs) = weigh (shift a x) xs

-- the weight of a row
abbrev pub weight : List ℤ → ℤ
weight xs = weigh (pos 0) xs

-- how far from zero a place may lie for the weight to tell: a quarter of the base
abbrev pub wide : ℕ
wide = 2500000000000000000000000000000000000000
