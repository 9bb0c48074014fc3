use Rattle.planner.proofs.EntryTests.{reached_by}
use Rattle.planner.proofs.search.raise.is_head_reached.Goals as goal

pub returns-in-Some : goal.returns-in-Some
returns-in-Some g c = reached_by c.args.links.now.prior.now c.args.tails.now.reached.now c.args.j c.in-Some.i c.in-Some.ensures _ c.is_reached.ensures
