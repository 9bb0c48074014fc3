-- What the duties of a table come to, over whole numbers: words for proofs. Assumes nothing.
use Rattle.std.specs.Prelude.{◌≡◌, ℕ, ◌<◌, cond, List, [], ◌∷◌, length, ℤ, ◌+ℤ◌, ◌==◌, ◌≢◌}
use Rattle.std.specs.List.{AllByRecursion}
use Rattle.duties.specs.Duties.{wholes, Net, link_cost, cost, times, below, missing, sum_over, Cover}
use Rattle.duties.specs.Tables.{after, Follows}

-- the trips that duties begin with
abbrev pub starts : List (List ℕ) → List ℕ
starts [] = []
starts ([] ∷ ds) = starts ds
starts ((i ∷ js) ∷ ds) = i ∷ starts ds

-- what it costs to go on after i as the table says
abbrev pub step_cost : Net ℤ → List ℕ → ℕ → ℤ
step_cost N t i = cond (after t i == 65535) (N.homes i) (link_cost wholes N i (after t i))

-- Duties that a table means. They are a cover, run as the table says, begin with the trips that stand nowhere in the table, and cost what the steps and those beginnings cost.
pub record Traced (N : Net ℤ) (t : List ℕ) (ds : List (List ℕ)) : Type 0 where
  pub cover : Cover N ds
  pub follows : AllByRecursion (Follows t) ds
  pub begins : (k : ℕ) → times k (starts ds) ≡ times k (missing N.trips t)
  pub number : length ds ≡ length (missing N.trips t)
  pub costs : cost wholes N ds ≡ sum_over wholes (step_cost N t) (below N.trips) +ℤ sum_over wholes N.opens (missing N.trips t)

-- Prices that every step of the table meets exactly.
pub record Tight (N : Net ℤ) (t : List ℕ) (a b : ℕ → ℤ) (h : ℤ) : Type 0 where
  pub open_tight : (j : ℕ) → j < N.trips → times j t ≡ 0 → a j ≡ N.opens j +ℤ h
  pub home_tight : (i : ℕ) → i < N.trips → after t i ≡ 65535 → b i ≡ N.homes i
  pub link_tight : (i : ℕ) → i < N.trips → (after t i ≢ 65535) → b i +ℤ a (after t i) ≡ link_cost wholes N i (after t i)
