-- What the edges sheet says of its lines. Assumes nothing.
use Rattle.std.specs.Prelude.{ℕ, Bool, cond, not, ◌&&◌, List, [], ◌∷◌, length, Some, None, ◌==◌, nat_le, slice_index}
use Rattle.faults.specs.declared.refusal.Refusal.TheVariants.{JoinsItself}
use Rattle.faults.specs.declared.layer.Layer.TheVariants.{Edges}
use Rattle.walks.specs.declared.edge.Edge.{Edge}
use Rattle.sheet.specs.Rules.{Rules}

-- the four numbers of a line are within their ranges: the edge's number at most 65,535, its berths at most 31, its length 1 to 600 minutes
abbrev pub in_range : ℕ → ℕ → ℕ → ℕ → Bool
in_range number left right minutes = nat_le number 65535 && (nat_le left 31 && (nat_le right 31 && (nat_le 1 minutes && nat_le minutes 600)))

-- the edge of a line with four numbers
abbrev pub edge_of : ℕ → List ℕ → Edge
edge_of line ns = record { number = slice_index ns 0; left = slice_index ns 1; right = slice_index ns 2; length = slice_index ns 3; line = line }

-- a line has four fields, its numbers are within their ranges, and no edge joins a berth to itself; at most 200 edges
abbrev pub edge_rules : Rules Edge
edge_rules = record {
  layer = Edges;
  takes = λ n. (n == 4);
  made = λ line ns. cond (length ns == 4 && in_range (slice_index ns 0) (slice_index ns 1) (slice_index ns 2) (slice_index ns 3)) (Some (edge_of line ns)) None;
  clash = λ rs e. cond (e.left == e.right) (Some JoinsItself) None;
  most = 200;
  least = 0;
}

-- the numbers that a line of the sheet would have for an edge
abbrev pub numbers_of : Edge → List ℕ
numbers_of e = e.number ∷ e.left ∷ e.right ∷ e.length ∷ []

-- an edge as the chart holds it: within its ranges, and between two berths
abbrev pub is_lawful : Edge → Bool
is_lawful e = in_range e.number e.left e.right e.length && not (e.left == e.right)
