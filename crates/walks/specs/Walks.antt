-- Walks along edges, and their least lengths. Assumes nothing.
use Rattle.std.specs.Prelude.{◌≡◌, ℕ, ◌+◌, ◌<◌, ◌≤◌, ◌⊎◌, List, length, get_or, Some, None, Option, slice_index_or}
use Rattle.walks.specs.declared.edge.Edge.{Edge}

-- A berth is one of the numbers from 0 to 31.
abbrev pub IsBerth : ℕ → Type 0
IsBerth x = x < 32

-- What is read past the end of a list of edges.
abbrev pub no_edge : Edge
no_edge = record { number = 0; left = 0; right = 0; length = 0; line = 0 }

-- The edge can be run from x to y: either way.
abbrev pub Joins : Edge → ℕ → ℕ → Type 0
Joins e x y = ((e.left ≡ x) × (e.right ≡ y)) ⊎ ((e.left ≡ y) × (e.right ≡ x))

-- A step is the run of one edge of the list, of length m, from the berth x to the berth y.
pub record Step (es : List Edge) (x y m : ℕ) : Type 0 where
  pub from : IsBerth x
  pub to : IsBerth y
  pub place : ℕ
  pub listed : place < length es
  pub joins : Joins (slice_index_or es place no_edge) x y
  pub long : (get_or es place no_edge).length ≡ m

-- A walk from berth to berth: to stay, of length 0, or to go a step and then walk on, the lengths added.
pub data Walk (es : List Edge) : ℕ → ℕ → ℕ → Type 0 where
  stay : {x : ℕ} → IsBerth x → Walk es x x 0
  go : {x y z m n : ℕ} → Step es x y m → Walk es y z n → Walk es x z (m + n)

-- The least number of which P holds, or None where P holds of no number.
abbrev pub LeastOf : (ℕ → Type 0) → Option ℕ → Type 0
LeastOf P None = (n : ℕ) → P n → ⊥
LeastOf P (Some m) = P m × ((n : ℕ) → P n → m ≤ n)

-- The least length of a walk from x to y, or None where there is no walk.
abbrev pub Least : List Edge → ℕ → ℕ → Option ℕ → Type 0
Least es x y o = LeastOf (Walk es x y) o
