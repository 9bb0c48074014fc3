use Rattle.std.proofs.Common.{arith}
use borrow.Author.Differences.{ints}
use Rattle.rows.proofs.Bounds.{near_at}
use Rattle.rows.proofs.Steps.{sums_still, sums_more, sums_all}
use Rattle.rows.proofs.places.sums.Goals as goal

pub overflow_add-x : goal.overflow_add-x
overflow_add-x g c =
    let a = near_at c.args.xs c.requires.first_near c.loop-i.i (omega arith) in
    let b = near_at c.args.ys c.requires.second_near c.loop-i.i (omega arith) in
    let same = sums_still c.args.xs c.args.ys c.loop-i.x-items c.loop-i.i (omega arith) c.loop-i.invariant in
    omega (arith, ints)

pub loop-i-preserved : goal.loop-i-preserved
loop-i-preserved g c =
    let a = near_at c.args.xs c.requires.first_near c.loop-i.i (omega arith) in
    let b = near_at c.args.ys c.requires.second_near c.loop-i.i (omega arith) in
    let same = sums_still c.args.xs c.args.ys c.loop-i.x-items c.loop-i.i (omega arith) c.loop-i.invariant in
    sums_more c.args.xs c.args.ys c.loop-i.x-items c.loop-i.i _ (omega arith) (omega arith) c.loop-i.invariant (omega (arith, ints))

pub returns : goal.returns
returns g c = sums_all c.args.xs c.args.ys _ c.loop-i.i (omega arith) c.loop-i.invariant
