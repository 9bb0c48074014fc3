use Rattle.std.proofs.Common.{rules}
use Rattle.std.proofs.lemmas.Bool.{MatchBool-at_true, MatchBool-at_false}
use Rattle.std.proofs.lemmas.List.{set-get_or}
use Rattle.matchings.proofs.RaiseSteps.{head_skip, heads_put}
use Rattle.planner.proofs.search.raise.raise_heads.Goals as goal
use Rattle.planner.proofs.search.raise.raise_heads.Goals.{then-is_head_reached, else-is_head_reached}

pub loop-j-preserved : goal.loop-j-preserved
loop-j-preserved g c =
    let m = g.V.Rowed in
    elim c.if-is_head_reached.branch [
      | then-is_head_reached w ↦
          simp w.coming-is (heads_put m.row m.count m.long m.near c.args.by c.requires.step _ _ _ _ _ c.loop-j.invariant c.requires.near (search rules) (search rules) _ _ c.index-coming-j.is (MatchBool-at_true _ _ w.if-is_head_reached.true c.is_head_reached.ensures) (rw (← c.index-coming-j.is) at w.plus.ensures))
      | else-is_head_reached w ↦ simp (w.coming-is, set-get_or) (head_skip _ _ _ _ _ _ c.loop-j.invariant (MatchBool-at_false _ _ w.if-is_head_reached.false c.is_head_reached.ensures))
    ]
