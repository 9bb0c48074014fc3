use Rattle.std.proofs.Common.{rules}
use Rattle.matchings.proofs.Openings.{opened_more}
use Rattle.planner.proofs.search.solve.quote.Goals as goal

pub loop-i-preserved : goal.loop-i-preserved
loop-i-preserved g c =
    let m = g.C.Value.Rowed in
    opened_more m.row m.count m.long m.near _ c.args.day.now.bounded _ c.requires.near _ _ _ c.loop-i.invariant (search rules) (search rules) _ _ _ c.opening.ensures c.plus.ensures c.home.ensures
