use Rattle.matchings.specs.Tables.{at}
use Rattle.matchings.specs.Flips.{Flipping}
use Rattle.planner.specs.Searches.{trips}
use Rattle.planner.proofs.search.flip.flip.Given as goal

abbrev pub invariant-walk : goal.invariant-walk
invariant-walk g l = Flipping (trips l.initial.links) l.tails.reached.now l.tails.via.now l.initial.links.next.now l.initial.links.prior.now l.i l.links.next.now l.links.prior.now

abbrev pub decreases-walk : goal.decreases-walk
decreases-walk g l = at l.tails.reached.now l.i
