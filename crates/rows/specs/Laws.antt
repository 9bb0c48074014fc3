-- What holds of all rows. Assumes nothing.
use Rattle.std.specs.Prelude.{◌≡◌, ℕ, ◌+◌, ◌<◌, ◌≤◌, Some, List, length, ℤ, pos, ◌+ℤ◌, ◌*ℤ◌, neg_ℤ, ◌<ℤ◌, Decides, int_lt, slice_index_or}
use Rattle.std.specs.Ordering.{int_cmp, int_eq}
use Rattle.std.specs.Cmp.Lexicographic.{slice_cmp, slice_partial_cmp, pointwise}
use Rattle.rows.specs.Places.{added, opposite, scaled, most, held, kept, Near, Small, below, Standing, weight, wide}

-- The place k is the first where two rows differ, and there the first row has less.
pub record LessFirstAt (xs ys : List ℤ) (k : ℕ) : Type 0 where
  pub within : k < length xs
  pub alike : (i : ℕ) → i < k → slice_index_or xs i (pos 0) ≡ slice_index_or ys i (pos 0)
  pub less : slice_index_or xs k (pos 0) <ℤ slice_index_or ys k (pos 0)

-- Of two rows of one length, one is below the other exactly when it has less at the first place where they differ.
abbrev pub FirstDifferenceDecides : Type 0
FirstDifferenceDecides = (xs ys : List ℤ) → length xs ≡ length ys → Decides (below xs ys) ((k : ℕ) × LessFirstAt xs ys k)

-- Rows of one length, each place within ±q, stand as their weights do.
abbrev pub WeightsOrder : ℕ → Type 0
WeightsOrder q = (xs ys : List ℤ) → length xs ≡ length ys → Small q xs → Small q ys → below xs ys ≡ int_lt (weight xs) (weight ys)

-- The sum of two rows of one length weighs what they weigh together.
abbrev pub SumWeighsBoth : Type 0
SumWeighsBoth = (xs ys : List ℤ) → length xs ≡ length ys → weight (added xs ys) ≡ weight xs +ℤ weight ys

-- The opposite of a row weighs the opposite.
abbrev pub OppositeWeighsOpposite : Type 0
OppositeWeighsOpposite = (xs : List ℤ) → weight (opposite xs) ≡ neg_ℤ (weight xs)

-- The k-fold of a row weighs k times as much.
abbrev pub MultipleWeighsMultiple : Type 0
MultipleWeighsMultiple = (k : ℤ) (xs : List ℤ) → weight (scaled k xs) ≡ weight xs *ℤ k

-- What the bound makes of a number: past it on either side, the bound on that side; otherwise the number.
pub record HeldRight (z : ℤ) : Type 0 where
  pub exact : Near most z → held z ≡ z
  pub over : pos most <ℤ z → held z ≡ pos most
  pub under : z <ℤ neg_ℤ (pos most) → held z ≡ neg_ℤ (pos most)

-- The bound holds every number so.
abbrev pub BoundHolds : Type 0
BoundHolds = (z : ℤ) → HeldRight z

-- Rows with each place within ±p and ±q have an exact sum, where p and q together are within the bound.
abbrev pub NearSumsExact : Type 0
NearSumsExact = (p q : ℕ) (xs ys : List ℤ) → Small p xs → Small q ys → p + q ≤ most → kept (added xs ys) ≡ added xs ys

-- What `cmp` answers, place by place, says how two rows stand.
abbrev pub CmpTellsStanding : Type 0
CmpTellsStanding = (xs ys : List ℤ) → Standing xs ys (slice_cmp int_cmp xs ys)

-- What `partial_cmp` answers, place by place, is what `cmp` answers.
abbrev pub PartialCmpIsCmp : Type 0
PartialCmpIsCmp = (xs ys : List ℤ) → slice_partial_cmp (λ x y. Some (int_cmp x y)) xs ys ≡ Some (slice_cmp int_cmp xs ys)

-- What `==` answers, place by place, says whether two rows are the same.
abbrev pub EqTellsSame : Type 0
EqTellsSame = (xs ys : List ℤ) → Decides (pointwise int_eq xs ys) (xs ≡ ys)

-- the laws of rows
pub record RowLaws : Type 0 where
  pub decides : FirstDifferenceDecides
  pub orders : WeightsOrder wide
  pub adds : SumWeighsBoth
  pub turns : OppositeWeighsOpposite
  pub scales : MultipleWeighsMultiple
  pub holds : BoundHolds
  pub exact : NearSumsExact
  pub stands : CmpTellsStanding
  pub same : EqTellsSame
