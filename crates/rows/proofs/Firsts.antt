-- The order of rows: the first place that differs decides, and rows of one length of which neither is below the other are the same. Assumes nothing.
use Rattle.std.proofs.Common.{◌≡◌, ℕ, zero, suc, ◌<◌, Bool, true, false, cond, List, [], ◌∷◌, length, get_or, ℤ, pos, ◌<ℤ◌, Decides, sym, refl, ap, ◌∙◌, arith}
use borrow.Author.Differences.{ints}
use lib.Signed.{lt_z}
use Rattle.rows.specs.Places.{below}
use Rattle.rows.specs.Laws.{LessFirstAt}

-- ---- the first place that differs

-- a place further on, behind a place that is alike
later : (x y : ℤ) (xs ys : List ℤ) → x ≡ y → (k : ℕ) × LessFirstAt xs ys k → (k : ℕ) × LessFirstAt (x ∷ xs) (y ∷ ys) k
later x y xs ys e (k, f) =
    (suc k, record { within = let w = f.within in omega arith; alike = alike; less = f.less })
  where
    alike : (i : ℕ) → i < suc k → get_or (x ∷ xs) i (pos 0) ≡ get_or (y ∷ ys) i (pos 0)
    alike zero l = e
    alike (suc i) l = f.alike i (omega arith)

first_step : (x y : ℤ) (xs ys : List ℤ) → (below xs ys ≡ true → (k : ℕ) × LessFirstAt xs ys k) → (t u : Bool) → lt_z x y ≡ t → lt_z y x ≡ u → cond t true (cond u false (below xs ys)) ≡ true → (k : ℕ) × LessFirstAt (x ∷ xs) (y ∷ ys) k
first_step x y xs ys more true u e f h =
    (0, record { within = omega arith; alike = λ i l. absurd (omega arith); less = omega (arith, ints) })
first_step x y xs ys more false true e f h = cc
first_step x y xs ys more false false e f h = later x y xs ys (omega (arith, ints)) (more h)

first_from_below : (xs ys : List ℤ) → length xs ≡ length ys → below xs ys ≡ true → (k : ℕ) × LessFirstAt xs ys k
first_from_below [] [] e h = cc
first_from_below [] (y ∷ ys) e h = absurd (omega arith)
first_from_below (x ∷ xs) [] e h = absurd (omega arith)
first_from_below (x ∷ xs) (y ∷ ys) e h = first_step x y xs ys (first_from_below xs ys (omega arith)) (lt_z x y) (lt_z y x) refl refl h

-- how one place decides, where its tests came out so
pub by_tests : (x y : ℤ) (b t u : Bool) → lt_z x y ≡ t → lt_z y x ≡ u → cond (lt_z x y) true (cond (lt_z y x) false b) ≡ cond t true (cond u false b)
by_tests x y b t u e f = ap (λ s. cond s true (cond (lt_z y x) false b)) e ∙ ap (λ s. cond t true (cond s false b)) f

below_from_first : (xs ys : List ℤ) (k : ℕ) → length xs ≡ length ys → LessFirstAt xs ys k → below xs ys ≡ true
below_from_first [] ys k e f = absurd (let w = f.within in omega arith)
below_from_first (x ∷ xs) [] k e f = absurd (omega arith)
below_from_first (x ∷ xs) (y ∷ ys) zero e f =
    let l : x <ℤ y = f.less in
    by_tests x y (below xs ys) true false (sym (omega (arith, ints))) (sym (omega (arith, ints)))
below_from_first (x ∷ xs) (y ∷ ys) (suc k) e f =
    let same : x ≡ y = f.alike 0 (omega arith) in
    let w = f.within in
    let rest : LessFirstAt xs ys k = record { within = omega arith; alike = λ i l. f.alike (suc i) (omega arith); less = f.less } in
    by_tests x y (below xs ys) false false (sym (omega (arith, ints))) (sym (omega (arith, ints))) ∙ below_from_first xs ys k (omega arith) rest

pub first_decides : (xs ys : List ℤ) → length xs ≡ length ys → Decides (below xs ys) ((k : ℕ) × LessFirstAt xs ys k)
first_decides xs ys e = (first_from_below xs ys e, λ f. below_from_first xs ys f.0 e f.1)

-- ---- rows of which neither is below the other

same_step : (x y : ℤ) (xs ys : List ℤ) → (below xs ys ≡ false → below ys xs ≡ false → xs ≡ ys) → (t u : Bool) → lt_z x y ≡ t → lt_z y x ≡ u → cond t true (cond u false (below xs ys)) ≡ false → cond u true (cond t false (below ys xs)) ≡ false → (x ∷ xs) ≡ (y ∷ ys)
same_step x y xs ys i true u e f h k = cc
same_step x y xs ys i false true e f h k = cc
same_step x y xs ys i false false e f h k =
    let same : x ≡ y = omega (arith, ints) in
    let rest : xs ≡ ys = i h k in
    cc

pub same_from_below : (xs ys : List ℤ) → length xs ≡ length ys → below xs ys ≡ false → below ys xs ≡ false → xs ≡ ys
same_from_below [] [] e h k = refl
same_from_below [] (y ∷ ys) e h k = absurd (omega arith)
same_from_below (x ∷ xs) [] e h k = absurd (omega arith)
same_from_below (x ∷ xs) (y ∷ ys) e h k = same_step x y xs ys (same_from_below xs ys (omega arith)) (lt_z x y) (lt_z y x) refl refl h k
