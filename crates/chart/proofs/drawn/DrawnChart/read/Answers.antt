use Rattle.sheet.proofs.Every.{says_all}
use Rattle.chart.specs.Edges.{edge_rules, is_lawful}
use Rattle.chart.proofs.Lawful.{admitted_lawful}
use Rattle.chart.proofs.drawn.DrawnChart.read.Goals as goal

pub invariant_of-edges-clause-lawful : goal.invariant_of-edges-clause-lawful
invariant_of-edges-clause-lawful c = says_all edge_rules 200 is_lawful (admitted_lawful 200) _ _ _ c.in_ok-records.ensures.reads.says
