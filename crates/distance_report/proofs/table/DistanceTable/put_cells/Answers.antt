use Rattle.std.proofs.Common.{◌+◌, ◌++◌, drop, sym, ap, ◌∙◌}
use Rattle.std.proofs.lemmas.List.{at_drop_more}
use Rattle.walks.specs.Tables.{length_between}
use Rattle.printing.proofs.Writing.{more}
use Rattle.distance_report.specs.Lines.{cell_text, cells_text}
use Rattle.distance_report.proofs.table.DistanceTable.put_cells.Goals as goal

pub loop-to-preserved : goal.loop-to-preserved
loop-to-preserved g c =
    let d = length_between c.args.self.now.chart.now.lengths.lengths c.args.from in
    more g.W.Write.write_str_gives _ _ _ _ _ _ _ c.loop-to.invariant c.in_ok-put_cell.ensures
    (at_drop_more (cells_text d) c.args.self.now.berths.now c.loop-to.to-index 0 c.loop-to-test.true
    ∙ ap (λ o. cell_text o ++ cells_text d (drop (c.loop-to.to-index + 1) c.args.self.now.berths.now)) (sym c.distance.ensures.value))
