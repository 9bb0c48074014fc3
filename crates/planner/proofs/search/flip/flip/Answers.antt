use Rattle.std.proofs.Common.{sym, arith}
use Rattle.matchings.proofs.FlipSteps.{flip_last, flip_more}
use Rattle.planner.proofs.search.flip.flip.Goals as goal

pub returns-in_default-loser : goal.returns-in_default-loser
returns-in_default-loser g c =
    simp (c.link.ensures.next, c.link.ensures.prior) (flip_last _ (omega (arith, c.args.links.now.few)) _ _ _ _ _ _ _ c.walk.invariant _ c.in-Some.ensures.1 c.in_default-loser.ensures)

pub walk-preserved : goal.walk-preserved
walk-preserved g c =
    simp (c.take_head.ensures.next, c.take_head.ensures.prior, c.link.ensures.next, c.link.ensures.prior)
    (flip_more _ (omega (arith, c.args.links.now.few)) _ _ _ _ _ _ _ c.walk.invariant _ _ c.in-Some.ensures.1 (sym c.in-Some-loser.ensures.1) (rw (← c.in-Some-loser.ensures.1) at c.in-Some-loser.ensures.0))
