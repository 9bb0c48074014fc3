use Rattle.rows.specs.Places.{weight}
use Rattle.matchings.specs.Tables.{RaiseHeads}
use Rattle.matchings.specs.Rowed.{weights}
use Rattle.planner.proofs.search.raise.raise_heads.Given as goal

abbrev pub invariant-loop-j : goal.invariant-loop-j
invariant-loop-j g l = RaiseHeads l.links.prior.now l.tails.reached.now (weight (g.V.Rowed.row l.by)) l.j (weights g.V.Rowed.row l.initial.coming) (weights g.V.Rowed.row l.coming)
