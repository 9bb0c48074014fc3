use Rattle.std.proofs.lemmas.List.{at_drop_more}
use Rattle.printing.proofs.Writing.{more}
use Rattle.distance_report.specs.Lines.{tabbed}
use Rattle.distance_report.proofs.cells.put_berths.Goals as goal

pub loop-berth-preserved : goal.loop-berth-preserved
loop-berth-preserved g c = more g.W.Write.write_str_gives _ _ _ _ _ _ _ c.loop-berth.invariant c.in_ok-write.ensures.writes (at_drop_more tabbed c.args.berths.now c.loop-berth.berth-index 0 c.loop-berth-test.true)
