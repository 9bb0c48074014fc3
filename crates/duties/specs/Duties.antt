-- Trips by their positions 0, 1, 2 .., the duties that run them, and what duties cost. Assumes nothing.
use Rattle.std.specs.Prelude.{◌≡◌, ℕ, zero, suc, ◌<◌, ◌≤◌, true, cond, List, [], ◌∷◌, ◌++◌, ℤ, pos, ◌+ℤ◌, is_some, filter, Option, ◌==◌, nat_eq}
use Rattle.std.specs.List.{AllByRecursion}
use Rattle.std.specs.Option.{unwrap_or}

-- A day's trips, by their positions in board order, and what they cost: to open a duty with a trip, to run one trip directly after another (if that is
-- allowed), and to come home after a trip. Costs are values of some kind: rows, or single whole numbers.
pub record Net (V : Type 0) : Type 0 where
  pub trips : ℕ
  pub opens : ℕ → V
  pub link : ℕ → ℕ → Option V
  pub homes : ℕ → V

-- how costs of some kind are summed
pub record Sums (V : Type 0) : Type 0 where
  pub none : V
  pub plus : V → V → V

-- whole numbers are summed as such
abbrev pub wholes : Sums ℤ
wholes = record { none = pos 0; plus = ◌+ℤ◌ }

-- j may be run directly after i
abbrev pub Links : {V : Type 0} → Net V → ℕ → ℕ → Type 0
Links N i j = is_some (N.link i j) ≡ true

-- each of js may be run directly after the one before it, and the first of them after i
abbrev pub Linked : {V : Type 0} → Net V → ℕ → List ℕ → Type 0
Linked N i [] = Unit {0}
Linked N i (j ∷ js) = Links N i j × Linked N j js

-- A duty has a first trip, and each of its trips is linked to the next.
abbrev pub IsDuty : {V : Type 0} → Net V → List ℕ → Type 0
IsDuty N [] = ⊥
IsDuty N (i ∷ js) = Linked N i js

-- ---- what duties cost

abbrev pub link_cost : {V : Type 0} → Sums V → Net V → ℕ → ℕ → V
link_cost S N i j = unwrap_or (N.link i j) S.none

-- what it costs, after i, to run js and come home
abbrev pub onward : {V : Type 0} → Sums V → Net V → ℕ → List ℕ → V
onward S N i [] = N.homes i
onward S N i (j ∷ js) = S.plus (link_cost S N i j) (onward S N j js)

-- a duty costs its opening, its links and its homecoming
abbrev pub duty_cost : {V : Type 0} → Sums V → Net V → List ℕ → V
duty_cost S N [] = S.none
duty_cost S N (i ∷ js) = S.plus (N.opens i) (onward S N i js)

-- duties together cost the sum
abbrev pub cost : {V : Type 0} → Sums V → Net V → List (List ℕ) → V
cost S N [] = S.none
cost S N (d ∷ ds) = S.plus (duty_cost S N d) (cost S N ds)

-- the sum of f over a list of positions
abbrev pub sum_over : {V : Type 0} → Sums V → (ℕ → V) → List ℕ → V
sum_over S f [] = S.none
sum_over S f (x ∷ xs) = S.plus (f x) (sum_over S f xs)

-- ---- which trips stand in duties

-- the positions of all duties, one duty after the other
abbrev pub positions : List (List ℕ) → List ℕ
positions [] = []
positions (d ∷ ds) = d ++ positions ds

-- how often k stands in a list
abbrev pub times : ℕ → List ℕ → ℕ
times k [] = 0
times k (x ∷ xs) = cond (k == x) (suc (times k xs)) (times k xs)

-- the positions below n
abbrev pub below : ℕ → List ℕ
below zero = []
below (suc n) = n ∷ below n

-- the positions below n that do not stand in xs
abbrev pub missing : ℕ → List ℕ → List ℕ
missing n xs = filter (λ k. nat_eq (times k xs) 0) (below n)

-- Duties in which every position is a trip's and none stands twice. Trips may be left out.
pub record Selection {V : Type 0} (N : Net V) (ds : List (List ℕ)) : Type 0 where
  pub duties : AllByRecursion (IsDuty N) ds
  pub within : AllByRecursion (λ k. k < N.trips) (positions ds)
  pub once : (k : ℕ) → times k (positions ds) ≤ 1

-- A cover puts each trip into exactly one duty.
pub record Cover {V : Type 0} (N : Net V) (ds : List (List ℕ)) : Type 0 where
  pub selection : Selection N ds
  pub every : (k : ℕ) → k < N.trips → times k (positions ds) ≡ 1
