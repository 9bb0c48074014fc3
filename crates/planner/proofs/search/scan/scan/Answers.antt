use Rattle.std.proofs.Common.{◌≡◌, not, sym, ap, ◌∙◌, inl, inr, arith, rules}
use Rattle.matchings.proofs.ScanSteps.{scan_skip, scans_put, scans_keep, mapped_none}
use Rattle.matchings.proofs.TableEntries.{near_read, weights_at}
use Rattle.planner.proofs.EntryTests.{some_entry, no_entry}
use Rattle.planner.proofs.search.scan.scan.Goals as goal
use Rattle.planner.proofs.search.scan.scan.Goals.{in-Some+then-is_none, then-is_none-via-then-is_none, then-is_none-via-else-is_none+then-is_below, in-Some+else-is_none+else-is_below, in_default}

pub loop-i-preserved-then-is_reached : goal.loop-i-preserved-then-is_reached
loop-i-preserved-then-is_reached g c =
    let i = c.loop-i.invariant in
    (i.0, scan_skip _ _ _ _ _ _ _ _ _ _ i.1 (inl (rw i.0 at c.if-is_reached.ensures)))

pub loop-i-preserved : goal.loop-i-preserved
loop-i-preserved g c =
    let m = g.C.Value.Rowed in
    let i = rw (← c.index-prices-j.is) at c.loop-i.invariant in
    let near = near_read m.row _ _ _ _ c.requires.within c.index-prices-j.is c.requires.near.coming in
    rw (← c.index-prices-j.is)
    (elim c.match-link.branch [
      | in-Some+then-is_none w ↦
          simp (w.tails-is, w.name.ensures) (
            i.0,
            scans_put m.row m.count m.long m.near _ c.args.day.now.bounded _ _ _ _ _ _ _ _ _ i.1 near c.requires.near.leaving (search rules) (search rules) (search rules)
                w.in-Some.cost _ _ _ (sym w.in-Some.ensures) w.index-prices-i.is (rw (← w.index-prices-i.is) at w.minus.ensures) (rw (← c.index-prices-j.is) at w.minus-slack.ensures) (omega arith) (rw i.0 at c.if-is_reached.ensures)
                (elim w.then-is_none.branch [ then-is_none-via-then-is_none v ↦ inl (no_entry _ _ _ w.via_of.ensures (sym w.is_none.ensures) (ap not v.if-is_none.true)) | then-is_none-via-else-is_none+then-is_below v ↦ inr (_, v.index-tails-i.is, sym (rw (← v.index-tails-i.is) at v.is_below.ensures) ∙ v.if-is_below.true) ]),
          )
      | in-Some+else-is_none+else-is_below w ↦
          simp w.tails-is (
            i.0,
            scans_keep m.row m.count m.long m.near _ c.args.day.now.bounded _ _ _ _ _ _ _ _ _ i.1 near c.requires.near.leaving (search rules) (search rules) (search rules)
                w.in-Some.cost _ _ _ (sym w.in-Some.ensures) w.index-prices-i.is (rw (← w.index-prices-i.is) at w.minus.ensures) (rw (← c.index-prices-j.is) at w.minus-slack.ensures) (some_entry _ _ _ w.via_of.ensures (sym w.is_none.ensures) (ap not w.if-is_none.false)) _ w.index-tails-i.is (sym (rw (← w.index-tails-i.is) at w.is_below.ensures) ∙ w.if-is_below.false),
          )
      | in_default w ↦ simp w.tails-is (i.0, scan_skip _ _ _ _ _ _ _ _ _ _ i.1 (inr (mapped_none _ _ _ c.link.ensures w.in_default.is)))
    ])

pub returns-clause-scanned : goal.returns-clause-scanned
returns-clause-scanned g c =
    let e : c.loop-i.i ≡ c.args.j = omega arith in
    rw (weights_at g.C.Value.Rowed.row _ _ _ c.requires.within c.index-prices-j.is) (rw (e, ← c.index-prices-j.is) at c.loop-i.invariant).1
