use Rattle.std.proofs.Common.{drop}
use Rattle.walks.specs.Tables.{length_between}
use Rattle.printing.proofs.Writing.{Written}
use Rattle.distance_report.specs.Lines.{cells_text}
use Rattle.distance_report.proofs.table.DistanceTable.put_cells.Given as goal

abbrev pub invariant-loop-to : goal.invariant-loop-to
invariant-loop-to g l =
    Written g.W.Write.write_str_gives l.initial.f
    (cells_text (length_between l.self.chart.now.lengths.lengths l.from) l.self.berths.now)
    (cells_text (length_between l.self.chart.now.lengths.lengths l.from) (drop l.to-index l.self.berths.now))
    l.f
