use Rattle.std.proofs.Common.{◌≡◌}
use Rattle.rows.specs.Places.{weight}
use Rattle.matchings.specs.Tables.{Scan}
use Rattle.matchings.specs.Rowed.{weighed, weights}
use Rattle.planner.proofs.search.scan.scan.Given as goal

abbrev pub invariant-loop-i : goal.invariant-loop-i
invariant-loop-i g l =
    (l.tails.reached.now ≡ l.initial.tails.reached.now)
    × Scan (weighed (g.C.Costs.net l.day.costs.now)) l.j (weight (g.C.Value.Rowed.row l.price)) (weights g.C.Value.Rowed.row l.prices.leaving.now) l.initial.tails.reached.now l.i
    (weights g.C.Value.Rowed.row l.initial.tails.slack.now) (weights g.C.Value.Rowed.row l.tails.slack.now) l.initial.tails.via.now l.tails.via.now
