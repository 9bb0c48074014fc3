use Rattle.std.proofs.Common.{◌≡◌, ◌<◌, length, pos, ◌≤ℤ◌}
use Rattle.rows.specs.Places.{weight}
use Rattle.matchings.specs.Tables.{free}
use Rattle.planner.specs.Searches.{trips, AreBorneOut, AreCalm}
use Rattle.planner.proofs.search.solve.solve.Given as goal

abbrev pub invariant-growths : goal.invariant-growths
invariant-growths g l =
    (trips l.links ≡ trips l.fn.links)
    × (length l.tails.reached.now ≡ trips l.links)
    × AreBorneOut g.C.Value.Rowed.row (g.C.Costs.net l.day.costs.now) l.links l.prices
    × AreCalm g.C.Value.Rowed.row l.links l.prices
    × (free l.links.prior.now ≡ l.duties)
    × (l.duties < l.limit → weight (g.C.Value.Rowed.row l.prices.hull) ≤ℤ pos 0)

abbrev pub decreases-growths : goal.decreases-growths
decreases-growths g l = l.duties
