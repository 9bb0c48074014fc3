use Rattle.std.proofs.Common.{drop}
use Rattle.walks.specs.Tables.{length_between}
use Rattle.printing.proofs.Writing.{Written}
use Rattle.distance_report.specs.Lines.{rows_text}
use Rattle.distance_report.proofs.table.DistanceTable.put_rows.Given as goal

abbrev pub invariant-loop-from : goal.invariant-loop-from
invariant-loop-from g l =
    Written g.W.Write.write_str_gives l.initial.f
    (rows_text (length_between l.self.chart.now.lengths.lengths) l.self.berths.now l.self.berths.now)
    (rows_text (length_between l.self.chart.now.lengths.lengths) l.self.berths.now (drop l.from-index l.self.berths.now))
    l.f
