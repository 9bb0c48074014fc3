use Rattle.std.proofs.Common.{arith, rules}
use Rattle.rows.specs.Places.{held}
use Rattle.rows.proofs.Steps.{mapped_more, mapped_all, kept_from}
use Rattle.rows.proofs.places.bounded.Goals as goal

pub loop-x-preserved : goal.loop-x-preserved
loop-x-preserved g c = mapped_more held c.args.xs c.loop-x.x-items c.loop-x.x-index _ (omega arith) c.loop-x.invariant (search rules)

pub returns-clause-near : goal.returns-clause-near
returns-clause-near g c = kept_from _ c.args.xs (mapped_all held c.args.xs _ c.loop-x.x-index (omega arith) c.loop-x.invariant)
