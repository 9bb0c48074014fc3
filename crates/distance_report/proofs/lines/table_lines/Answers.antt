use Rattle.std.proofs.Common.{◌∙◌}
use Rattle.std.proofs.lemmas.Result.{IfOk-weaker}
use Rattle.walks.specs.Tables.{length_between}
use Rattle.distance_report.proofs.Texts.{parts_text}
use Rattle.distance_report.proofs.lines.table_lines.Goals as goal

pub returns : goal.returns
returns c =
    IfOk-weaker c.format.result _ _
    (λ text p. p ∙ parts_text _ c.edges-2.result.now c.edges.result.now c.as_slice.result.now (length_between c.args.chart.now.lengths.lengths) c.edges-2.ensures c.edges.ensures (c.as_slice.ensures.value ∙ c.in_ok-berths.ensures))
    c.format.ensures.ok
