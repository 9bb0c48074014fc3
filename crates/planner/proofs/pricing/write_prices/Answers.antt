use Rattle.std.proofs.Common.{rules}
use Rattle.outcomes.proofs.Totals.{priced_more}
use Rattle.planner.proofs.pricing.write_prices.Goals as goal

pub loop-i-preserved : goal.loop-i-preserved
loop-i-preserved g c =
    let m = g.V.Rowed in
    priced_more m.row m.count m.long m.near _ _ _ (search rules) (search rules) c.requires.near.coming c.requires.near.leaving _ _ _ c.index-prices-i.is c.index-prices-i-in-loop-i.is
    (rw (← c.index-prices-i.is, ← c.index-prices-i-in-loop-i.is) at c.plus.ensures) _ (search rules) c.loop-i.invariant
