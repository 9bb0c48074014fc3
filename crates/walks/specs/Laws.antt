-- What holds of the least lengths of walks, whatever the edges are. Assumes nothing.
use Rattle.std.specs.Prelude.{◌≡◌, ℕ, ◌+◌, ◌*◌, ◌<◌, ◌≤◌, List, length, Some, Option, slice_index_or}
use Rattle.walks.specs.declared.edge.Edge.{Edge}
use Rattle.walks.specs.Walks.{IsBerth, no_edge, Least}

-- No edge of the list is longer than most.
abbrev pub NoneLonger : ℕ → List Edge → Type 0
NoneLonger most es = (k : ℕ) → k < length es → (slice_index_or es k no_edge).length ≤ most

-- The laws of least lengths over a list of edges: from a berth to itself it is 0, it is the same both ways, it is at most
-- that by way of a third berth, there is but one, and it is at most 31 times that of the longest edge.
pub record WalkLaws (es : List Edge) : Type 0 where
  pub home : (x : ℕ) → IsBerth x → Least es x x (Some 0)
  pub both_ways : (x y : ℕ) (d : Option ℕ) → Least es x y d → Least es y x d
  pub detour : (x y z a b : ℕ) → Least es x y (Some a) → Least es y z (Some b) → (c : ℕ) × Least es x z (Some c) × (c ≤ a + b)
  pub one : (x y : ℕ) (c d : Option ℕ) → Least es x y c → Least es x y d → c ≡ d
  pub far : (most x y m : ℕ) → NoneLonger most es → Least es x y (Some m) → m ≤ 31 * most
