use Rattle.std.proofs.Common.{drop}
use Rattle.printing.proofs.Writing.{Written}
use Rattle.distance_report.specs.Lines.{tabbed}
use Rattle.distance_report.proofs.cells.put_berths.Given as goal

abbrev pub invariant-loop-berth : goal.invariant-loop-berth
invariant-loop-berth g l = Written g.W.Write.write_str_gives l.initial.f (tabbed l.berths) (tabbed (drop l.berth-index l.berths)) l.f
