use Rattle.std.proofs.Common.{neg_ℤ, arith}
use borrow.Author.Differences.{ints}
use Rattle.rows.proofs.Bounds.{near_at}
use Rattle.rows.proofs.Steps.{mapped_still, mapped_more, mapped_all, kept_opposite}
use Rattle.rows.proofs.places.opposites.Goals as goal

pub overflow_sub-x : goal.overflow_sub-x
overflow_sub-x g c =
    let near = near_at c.args.xs c.requires.near c.loop-x.x-index (omega arith) in
    let same = mapped_still neg_ℤ c.args.xs c.loop-x.x-items c.loop-x.x-index c.loop-x.invariant in
    omega (arith, ints)

pub loop-x-preserved : goal.loop-x-preserved
loop-x-preserved g c =
    let near = near_at c.args.xs c.requires.near c.loop-x.x-index (omega arith) in
    let same = mapped_still neg_ℤ c.args.xs c.loop-x.x-items c.loop-x.x-index c.loop-x.invariant in
    mapped_more neg_ℤ c.args.xs c.loop-x.x-items c.loop-x.x-index _ (omega arith) c.loop-x.invariant (omega (arith, ints))

pub returns-clause-near : goal.returns-clause-near
returns-clause-near g c = kept_opposite c.args.xs _ c.requires.near (mapped_all neg_ℤ c.args.xs _ c.loop-x.x-index (omega arith) c.loop-x.invariant)
