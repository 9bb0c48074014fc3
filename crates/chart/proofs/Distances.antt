-- What holds of the distances of a chart with lawful edges. Assumes nothing.
use Rattle.std.proofs.Common.{◌≡◌, ℕ, zero, suc, ◌≤◌, true, not, eqb, leb, List, [], ◌∷◌, Some, Option, sym, subst, arith}
use mathlib.Core.Logic.{∥∥₁_map, ∥∥₁_elim}
use native.Mathlib.Bridge.{le_prop}
use Rattle.std.specs.List.{list_all}
use Rattle.std.proofs.lemmas.Bool.{and_parts, leb-true}
use Rattle.walks.specs.declared.edge.Edge.{Edge}
use Rattle.walks.specs.Walks.{Least}
use Rattle.walks.specs.Tables.{Table, TableOf, length_between}
use Rattle.walks.specs.Laws.{NoneLonger}
use Rattle.walks.proofs.Lawful.{laws_hold}
use Rattle.walks.proofs.Reading.{least_between}
use Rattle.chart.specs.Edges.{in_range, is_lawful}
use Rattle.chart.specs.Charts.{ChartLaws, Answers}

short_edge : (e : Edge) → is_lawful e ≡ true → e.length ≤ 600
short_edge e h =
    let a = and_parts (in_range e.number e.left e.right e.length) (not (eqb e.left e.right)) h in
    let b = and_parts (leb e.number 65535) _ a.0 in
    let c = and_parts (leb e.left 31) _ b.1 in
    let d = and_parts (leb e.right 31) _ c.1 in
    let f = and_parts (leb 1 e.length) _ d.1 in
    leb-true e.length 600 f.1

none_longer : (es : List Edge) → list_all is_lawful es ≡ true → NoneLonger 600 es
none_longer [] h k lt = absurd (omega arith)
none_longer (e ∷ es) h zero lt = short_edge e (and_parts (is_lawful e) (list_all is_lawful es) h).0
none_longer (e ∷ es) h (suc k) lt = none_longer es (and_parts (is_lawful e) (list_all is_lawful es) h).1 k (omega arith)

pub chart_laws : (es : List Edge) → list_all is_lawful es ≡ true → ChartLaws es
chart_laws es h =
    let w = laws_hold es in
    record { home = w.home; both_ways = w.both_ways; detour = w.detour; one = w.one; far = λ x y m. w.far 600 x y m (none_longer es h) }

-- what a closed chart answers is the distance
pub answer_least : (es : List Edge) (t : Table) (x y : ℕ) (o : Option ℕ) → ∥ TableOf es t ∥₁ → o ≡ length_between t x y → ∥ Least es x y o ∥₁
answer_least es t x y o h e = ∥∥₁_map h (λ table. subst (Least es x y) (sym e) (least_between es t table x y))

pub answer_short : (es : List Edge) (t : Table) (x y m : ℕ) → list_all is_lawful es ≡ true → ∥ TableOf es t ∥₁ → Some m ≡ length_between t x y → m ≤ 18600
answer_short es t x y m lawful h e = ∥∥₁_elim (answer_least es t x y (Some m) h e) le_prop ((chart_laws es lawful).far x y m)

-- what a finished chart answers for two berths
pub answers : (es : List Edge) (t : Table) (x y : ℕ) (r : Option ℕ) → list_all is_lawful es ≡ true → ∥ TableOf es t ∥₁ → r ≡ length_between t x y → Answers es t x y r
answers es t x y r lawful h e = record { value = e; least = answer_least es t x y r h e; laws = chart_laws es lawful }
