use Rattle.std.proofs.Common.{◌≡◌, ◌-◌, true, length, pos, ◌≤ℤ◌}
use Rattle.rows.specs.Places.{weight}
use Rattle.planner.specs.Searches.{trips, AreBorneOut, IsGrown}
use Rattle.planner.proofs.search.extend.extend.Given as goal

abbrev pub invariant-loop-i : goal.invariant-loop-i
invariant-loop-i g l =
    (length l.tails.reached.now ≡ length l.initial.tails.reached.now)
    × AreBorneOut g.C.Value.Rowed.row (g.C.Costs.net l.day.costs.now) l.links l.prices
    × IsGrown g.C.Value.Rowed.row (g.C.Costs.net l.day.costs.now) l.links l.prices l.tails l.t
    × (l.within ≡ true → weight (g.C.Value.Rowed.row l.prices.hull) ≤ℤ pos 0)

abbrev pub decreases-loop-i : goal.decreases-loop-i
decreases-loop-i g l = trips l.links - l.t
