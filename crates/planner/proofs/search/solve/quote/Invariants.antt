use Rattle.matchings.specs.Growths.{Opened}
use Rattle.planner.proofs.search.solve.quote.Given as goal

abbrev pub invariant-loop-i : goal.invariant-loop-i
invariant-loop-i g l = Opened g.C.Value.Rowed.row (g.C.Costs.net l.day.costs.now) l.hull l.i l.coming l.leaving
