use Rattle.std.proofs.Common.{◌∙◌, sym, rules}
use Rattle.std.proofs.lemmas.Bool.{MatchBool-at_true, MatchBool-at_false}
use Rattle.matchings.proofs.LeastSteps.{least_skip, least_first, least_better, least_keep}
use Rattle.planner.proofs.search.least.least.Goals as goal
use Rattle.planner.proofs.search.least.least.Goals.{then-is_open+in-Some+then-is_below, then-is_open+in-Some+else-is_below, then-is_open+in-None, else-is_open}

pub loop-i-preserved : goal.loop-i-preserved
loop-i-preserved g c =
    let m = g.V.Rowed in
    let t = c.args.tails.now in
    elim c.if-is_open.branch [
      | then-is_open+in-Some+then-is_below w ↦
          let o = MatchBool-at_true _ _ w.if-is_open.true c.is_open.ensures in
          simp w.best-is
          (least_better m.row m.count m.long m.near t.reached.now t.via.now t.slack.now c.loop-i.i c.loop-i.best w.in-Some.m w.in-Some.is _ _ o.0 o.1 (search rules) (search rules) c.slack-item.is w.index-tails-m.is c.loop-i.invariant (sym (rw (← w.index-tails-m.is) at w.is_below.ensures) ∙ w.if-is_below.true))
      | then-is_open+in-Some+else-is_below w ↦
          let o = MatchBool-at_true _ _ w.if-is_open.true c.is_open.ensures in
          simp w.best-is
          (least_keep m.row m.count m.long m.near t.reached.now t.via.now t.slack.now c.loop-i.i c.loop-i.best w.in-Some.m w.in-Some.is _ _ o.0 o.1 (search rules) (search rules) c.slack-item.is w.index-tails-m.is c.loop-i.invariant (sym (rw (← w.index-tails-m.is) at w.is_below.ensures) ∙ w.if-is_below.false))
      | then-is_open+in-None w ↦
          let o = MatchBool-at_true _ _ w.if-is_open.true c.is_open.ensures in
          simp w.best-is (least_first m.row m.count m.long m.near t.reached.now t.via.now t.slack.now c.loop-i.i c.loop-i.best w.in-None.is o.0 o.1 c.loop-i.invariant)
      | else-is_open w ↦ simp w.best-is (least_skip m.row m.count m.long m.near t.reached.now t.via.now t.slack.now c.loop-i.i c.loop-i.best c.loop-i.invariant (MatchBool-at_false _ _ w.if-is_open.false c.is_open.ensures))
    ]
