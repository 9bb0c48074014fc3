use Rattle.std.proofs.Common.{not, sym, refl, ap, ◌∙◌}
use Rattle.matchings.proofs.ScanKeeps.{start_skip, start_more}
use Rattle.matchings.proofs.Ranges.{weighed_forward}
use Rattle.planner.proofs.EntryTests.{some_entry, no_entry}
use Rattle.planner.proofs.search.scan.start.Goals as goal
use Rattle.planner.proofs.search.scan.start.Goals.{then-is_none, else-is_none}

pub loop-j-preserved : goal.loop-j-preserved
loop-j-preserved g c =
    let fw = weighed_forward _ _ c.args.day.now.bounded in
    let i = c.loop-j.invariant in
    elim c.if-is_none.branch [
      | then-is_none w ↦
          let s = w.scan.ensures in
          simp w.tails-is (s.reached ∙ i.0, rw s.reached (start_more _ _ fw _ _ _ _ _ _ _ c.loop-j-test.true i.1 (no_entry _ _ _ c.tail_of.ensures (sym c.is_none.ensures) (ap not w.if-is_none.true)) _ refl _ _ s.scanned))
      | else-is_none w ↦ simp w.tails-is (i.0, start_skip _ _ fw _ _ _ _ _ _ _ c.loop-j-test.true i.1 (some_entry _ _ _ c.tail_of.ensures (sym c.is_none.ensures) (ap not w.if-is_none.false)))
    ]
