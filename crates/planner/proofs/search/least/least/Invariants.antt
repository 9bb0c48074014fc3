use Rattle.matchings.specs.Tables.{Least}
use Rattle.matchings.specs.Rowed.{weights}
use Rattle.planner.proofs.search.least.least.Given as goal

abbrev pub invariant-loop-i : goal.invariant-loop-i
invariant-loop-i g l = Least l.tails.reached.now (weights g.V.Rowed.row l.tails.slack.now) l.tails.via.now l.i l.best
