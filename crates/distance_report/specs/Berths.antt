-- The berths that edges name. Assumes nothing.
use Rattle.std.specs.Prelude.{ℕ, zero, suc, Bool, cond, ◌||◌, List, [], ◌∷◌, ◌++◌, ◌==◌}
use Rattle.std.specs.List.{list_any}
use Rattle.walks.specs.declared.edge.Edge.{Edge}

-- whether the edge begins or ends at x
abbrev pub ends_at : Edge → ℕ → Bool
ends_at e x = e.left == x || e.right == x

-- whether some edge begins or ends at x
abbrev pub berth_is_named : List Edge → ℕ → Bool
berth_is_named es x = list_any (λ e. ends_at e x) es

-- those of the numbers below n where an edge begins or ends, in order
abbrev pub named_below : List Edge → ℕ → List ℕ
named_below es zero = []
named_below es (suc n) = named_below es n ++ cond (berth_is_named es n) (n ∷ []) []

-- the berths where an edge begins or ends, in order
abbrev pub named_berths : List Edge → List ℕ
named_berths es = named_below es 32
