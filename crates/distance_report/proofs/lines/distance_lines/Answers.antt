use Rattle.std.proofs.Common.{None, vec_items, sym, refl, subst}
use Rattle.std.proofs.lemmas.Result.{IfOk-weaker}
use Rattle.sheet.specs.Says.{Reads}
use Rattle.walks.specs.Tables.{length_between}
use Rattle.chart.specs.declared.laid.LaidEdges.{LaidEdges}
use Rattle.chart.specs.Edges.{edge_rules}
use Rattle.chart.proofs.Distances.{answer_least}
use Rattle.distance_report.proofs.lines.distance_lines.Goals as goal

pub returns-in-None : goal.returns-in-None
returns-in-None c =
    let read = subst (Reads edge_rules 200 c.args.sheet.now (vec_items c.in_ok-chart.field-0.chart.edges.list)) c.in-None.is c.in_ok-chart.ensures in
    let table = c.close.result.lengths.lengths in
    IfOk-weaker c.table_lines.result _ _
    (λ text p. (
      vec_items c.close.result.edges.list,
      None,
      subst (λ (v : LaidEdges). Reads edge_rules 200 c.args.sheet.now (vec_items v.list) None) (sym c.close.ensures) read,
      (length_between table, (λ x y. answer_least (vec_items c.close.result.edges.list) table x y (length_between table x y) c.close.result.closed refl), p),
    ))
    c.table_lines.ensures
