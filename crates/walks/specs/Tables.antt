-- Tables of lengths between berths, and what is done to one until it holds the least lengths. Assumes nothing.
use Rattle.std.specs.Prelude.{◌≡◌, ℕ, ◌+◌, ◌<◌, ◌≤◌, cond, List, [], Some, None, Option, ◌≢◌, nat_lt, slice_index_or, slice_set}
use Rattle.walks.specs.declared.edge.Edge.{Edge}
use Rattle.walks.specs.Walks.{IsBerth, Joins, Step, LeastOf, Least}

-- A table of lengths has a row for each berth, with an entry for the way from it to each.
abbrev pub Table : Type 0
Table = List (List (Option ℕ))

-- The row of a table for the ways from x.
abbrev pub row_of : Table → ℕ → List (Option ℕ)
row_of t x = slice_index_or t x []

-- The entry of a row for the way to y.
abbrev pub entry : List (Option ℕ) → ℕ → Option ℕ
entry r y = slice_index_or r y None

-- The entry of a table for the way from x to y.
abbrev pub at : Table → ℕ → ℕ → Option ℕ
at t x y = entry (row_of t x) y

-- The entry of a table between two numbers, None where one is no berth.
abbrev pub length_between : Table → ℕ → ℕ → Option ℕ
length_between t x y = cond (nat_lt x 32) (cond (nat_lt y 32) (at t x y) None) None

-- The table of the least lengths of walks over a list of edges.
unfoldable pub TableOf : List Edge → Table → Type 0
TableOf es t = (x y : ℕ) → IsBerth x → IsBerth y → Least es x y (at t x y)

-- The table of the least lengths of single steps over a list of edges.
unfoldable pub Direct : List Edge → Table → Type 0
Direct es t = (x y : ℕ) → IsBerth x → IsBerth y → LeastOf (Step es x y) (at t x y)

-- No entry of a table is more than most.
abbrev pub Within : ℕ → Table → Type 0
Within most t = (x y n : ℕ) → IsBerth x → IsBerth y → at t x y ≡ Some n → n ≤ most

-- No entry of a row is more than most.
abbrev pub RowWithin : ℕ → List (Option ℕ) → Type 0
RowWithin most r = (y n : ℕ) → IsBerth y → entry r y ≡ Some n → n ≤ most

-- The shorter of a new length and an old one, if there is an old one.
abbrev pub shorter : ℕ → Option ℕ → ℕ
shorter n None = n
shorter n (Some m) = cond (nat_lt n m) n m

-- The old length o, or that by way of a third berth, first a and then b, where that is shorter.
abbrev pub via : Option ℕ → Option ℕ → Option ℕ → Option ℕ
via None b o = o
via (Some a) None o = o
via (Some a) (Some b) o = Some (shorter (a + b) o)

-- The row r with a new length to y, where that is shorter.
abbrev pub with_entry : List (Option ℕ) → ℕ → ℕ → List (Option ℕ)
with_entry r y m = slice_set r y (Some (shorter m (entry r y)))

-- The table t with a new length from x to y, where that is shorter.
abbrev pub with_length : Table → ℕ → ℕ → ℕ → Table
with_length t x y m = slice_set t x (with_entry (row_of t x) y m)

-- The table t is s with an edge laid: its length stands wherever it can be run, unless what stood there is shorter.
pub record EdgeLaid (e : Edge) (s t : Table) : Type 0 where
  pub run : (x y : ℕ) → IsBerth x → IsBerth y → Joins e x y → at t x y ≡ Some (shorter e.length (at s x y))
  pub other : (x y : ℕ) → IsBerth x → IsBerth y → (Joins e x y → ⊥) → at t x y ≡ at s x y

-- The table t is s with length 0 from each berth below i to itself.
pub record Stands (i : ℕ) (s t : Table) : Type 0 where
  pub home : (x : ℕ) → x < i → at t x x ≡ Some 0
  pub other : (x y : ℕ) → IsBerth x → IsBerth y → (x ≢ y) → at t x y ≡ at s x y

-- The row t is s with ways by berth k tried, of which onward is the row.
abbrev pub RowTried : ℕ → List (Option ℕ) → List (Option ℕ) → List (Option ℕ) → Type 0
RowTried k onward s t = (y : ℕ) → IsBerth y → entry t y ≡ via (entry s k) (entry onward y) (entry s y)

-- The table t is s with ways by berth k tried from each berth below i.
pub record Tried (k i : ℕ) (s t : Table) : Type 0 where
  pub rows : (x y : ℕ) → x < i → IsBerth y → at t x y ≡ via (at s x k) (at s k y) (at s x y)
  pub ahead : (x : ℕ) → i ≤ x → row_of t x ≡ row_of s x
