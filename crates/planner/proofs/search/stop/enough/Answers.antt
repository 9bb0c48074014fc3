use Rattle.matchings.proofs.ZeroTests.{below_zero}
use Rattle.std.proofs.lemmas.Bool.{not-true, not-false}
use Rattle.planner.proofs.search.stop.enough.Goals as goal

pub returns-then-duties-limit : goal.returns-then-duties-limit
returns-then-duties-limit g c =
    let m = g.V.Rowed in
    let e = below_zero m.row m.count m.long m.near _ _ _ c.zero.ensures c.is_below.ensures in
    record { stop = λ t. (c.if-duties-limit.true, e.1 (not-true _ t)); go = λ t _. e.0 (not-false _ t) }
