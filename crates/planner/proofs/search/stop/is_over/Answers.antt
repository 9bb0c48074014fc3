use Rattle.matchings.proofs.ZeroTests.{sum_above_zero}
use Rattle.planner.proofs.search.stop.is_over.Goals as goal

pub returns : goal.returns
returns g c =
    let m = g.V.Rowed in
    sum_above_zero m.row m.count m.long m.near _ _ _ _ _ c.requires.hull_near c.requires.by_near c.zero.ensures c.plus.ensures c.is_below.ensures
