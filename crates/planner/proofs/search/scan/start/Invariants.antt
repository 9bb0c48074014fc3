use Rattle.std.proofs.Common.{◌≡◌, length}
use Rattle.matchings.specs.Tables.{FreeBelow}
use Rattle.matchings.specs.Rowed.{weighed, weights}
use Rattle.matchings.specs.Sound.{Slacks}
use Rattle.planner.proofs.search.scan.start.Given as goal

abbrev pub invariant-loop-j : goal.invariant-loop-j
invariant-loop-j g l =
    (l.tails.reached.now ≡ l.initial.tails.reached.now)
    × Slacks (weighed (g.C.Costs.net l.day.costs.now)) (length l.links.next.now) (FreeBelow l.links.prior.now l.j) l.tails.reached.now l.tails.via.now (weights g.C.Value.Rowed.row l.prices.coming.now) (weights g.C.Value.Rowed.row l.prices.leaving.now) (weights g.C.Value.Rowed.row l.tails.slack.now)
