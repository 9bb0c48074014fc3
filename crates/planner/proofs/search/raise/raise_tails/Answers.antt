use Rattle.std.proofs.Common.{rules}
use Rattle.std.proofs.lemmas.Bool.{MatchBool-at_true, MatchBool-at_false}
use Rattle.std.proofs.lemmas.List.{set-get_or}
use Rattle.matchings.proofs.RaiseSteps.{tail_skip, tails_put, slacks_put}
use Rattle.planner.proofs.EntryTests.{some_entry, no_entry}
use Rattle.planner.proofs.search.raise.raise_tails.Goals as goal
use Rattle.planner.proofs.search.raise.raise_tails.Goals.{then-is_reached, else-is_reached+then-is_some, else-is_reached+else-is_some}

pub loop-i-preserved : goal.loop-i-preserved
loop-i-preserved g c =
    let m = g.V.Rowed in
    let i = c.loop-i.invariant in
    elim c.if-is_reached.branch [
      | then-is_reached w ↦
          simp (w.leaving-is, w.tails-is) (i.0, i.1, tails_put m.row m.count m.long m.near c.args.by c.requires.step _ _ _ _ _ _ _ i.2 c.requires.near (search rules) (search rules) _ _ c.index-leaving-i.is (rw i.0 at (MatchBool-at_true _ _ w.if-is_reached.true c.is_reached.ensures)) (rw (← c.index-leaving-i.is) at w.minus.ensures))
      | else-is_reached+then-is_some w ↦
          simp (w.leaving-is, w.tails-is, set-get_or) (i.0, i.1, slacks_put m.row m.count m.long m.near c.args.by c.requires.step _ _ _ _ _ _ _ i.2 c.requires.near_slack (search rules) (search rules) _ _ w.index-tails-i.is (rw i.0 at (MatchBool-at_false _ _ w.if-is_reached.false c.is_reached.ensures)) (rw i.1 at (some_entry _ _ _ w.via_of.ensures w.is_some.ensures w.if-is_some.true)) (rw (← w.index-tails-i.is) at w.minus-then-is_some.ensures))
      | else-is_reached+else-is_some w ↦
          simp (w.leaving-is, w.tails-is, set-get_or) (i.0, i.1, tail_skip _ _ _ _ _ _ _ _ i.2 (rw i.0 at (MatchBool-at_false _ _ w.if-is_reached.false c.is_reached.ensures)) (rw i.1 at (no_entry _ _ _ w.via_of.ensures w.is_some.ensures w.if-is_some.false)))
    ]
