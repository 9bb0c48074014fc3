-- What a chart takes, and what its distances obey. Assumes nothing.
use Rattle.std.specs.Prelude.{◌≡◌, ℕ, ◌+◌, ◌≤◌, List, [], ◌∷◌, ◌++◌, Some, Ok, Err, Option, Result}
use Rattle.faults.specs.declared.fault.Fault.{Fault}
use Rattle.walks.specs.declared.edge.Edge.{Edge}
use Rattle.walks.specs.Walks.{IsBerth, Least}
use Rattle.walks.specs.Tables.{Table, length_between}
use Rattle.sheet.specs.Says.{Admits, Rejects}
use Rattle.chart.specs.Edges.{edge_rules, numbers_of}

-- an edge laid by hand on a chart with the edges es: it is taken or refused as the edges sheet would at the edge's line, and a refused one leaves the edges as they were
abbrev pub Lays : {U : Type 0} → List Edge → Edge → Result U Fault → List Edge → Type 0
Lays es e (Ok done) fs = Admits edge_rules 200 e.line es (numbers_of e) e × (fs ≡ es ++ e ∷ [])
Lays es e (Err f) fs = Rejects edge_rules 200 e.line es (numbers_of e) f × (fs ≡ es)

-- the laws of the distances over the edges of a chart: none from a berth to itself, the same both ways, no longer than a detour by a third berth, never two, and at most 31 edges of 600 minutes
pub record ChartLaws (es : List Edge) : Type 0 where
  pub home : (x : ℕ) → IsBerth x → Least es x x (Some 0)
  pub both_ways : (x y : ℕ) (d : Option ℕ) → Least es x y d → Least es y x d
  pub detour : (x y z a b : ℕ) → Least es x y (Some a) → Least es y z (Some b) → (c : ℕ) × Least es x z (Some c) × (c ≤ a + b)
  pub one : (x y : ℕ) (c d : Option ℕ) → Least es x y c → Least es x y d → c ≡ d
  pub far : (x y m : ℕ) → Least es x y (Some m) → m ≤ 18600

-- the answer r of a finished chart, with the edges es and the table t of least lengths, for the way from x to y: what the table has, which is the distance; and the distances obey the laws
pub record Answers (es : List Edge) (t : Table) (x y : ℕ) (r : Option ℕ) : Type 0 where
  pub value : r ≡ length_between t x y
  pub least : ∥ Least es x y r ∥₁
  pub laws : ChartLaws es
