use Rattle.std.proofs.lemmas.List.{at_drop_more}
use Rattle.walks.specs.Tables.{length_between}
use Rattle.printing.proofs.Writing.{more}
use Rattle.distance_report.specs.Lines.{rows_text}
use Rattle.distance_report.proofs.table.DistanceTable.put_rows.Goals as goal

pub loop-from-preserved : goal.loop-from-preserved
loop-from-preserved g c =
    more g.W.Write.write_str_gives _ _ _ _ _ _ _ c.loop-from.invariant c.in_ok-put_row.ensures
    (at_drop_more (rows_text (length_between c.args.self.now.chart.now.lengths.lengths) c.args.self.now.berths.now) c.args.self.now.berths.now c.loop-from.from-index 0 c.loop-from-test.true)
