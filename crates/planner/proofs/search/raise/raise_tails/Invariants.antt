use Rattle.std.proofs.Common.{◌≡◌}
use Rattle.rows.specs.Places.{weight}
use Rattle.matchings.specs.Tables.{RaiseTails}
use Rattle.matchings.specs.Rowed.{weights}
use Rattle.planner.proofs.search.raise.raise_tails.Given as goal

abbrev pub invariant-loop-i : goal.invariant-loop-i
invariant-loop-i g l =
    (l.tails.reached.now ≡ l.initial.tails.reached.now)
    × (l.tails.via.now ≡ l.initial.tails.via.now)
    × RaiseTails l.initial.tails.reached.now l.initial.tails.via.now (weight (g.V.Rowed.row l.by)) l.i (weights g.V.Rowed.row l.initial.leaving) (weights g.V.Rowed.row l.leaving) (weights g.V.Rowed.row l.initial.tails.slack.now) (weights g.V.Rowed.row l.tails.slack.now)
