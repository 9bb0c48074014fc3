use Rattle.std.proofs.Common.{subst, arith}
use Rattle.walks.specs.Tables.{at}
use Rattle.walks.proofs.Relaxing.{Settled, settled_more, settled_table}
use Rattle.walks.proofs.Rows.{round_within}
use Rattle.walks.proofs.Standing.{stands_settled}
use Rattle.walks.proofs.rounds.settle.Goals as goal

pub loop-by-preserved : goal.loop-by-preserved
loop-by-preserved c = record {
  settled = λ es g. settled_more es c.loop-by.by (at c.loop-by.lengths) (at c.try_ways.new.lengths) c.loop-by-test.true (c.loop-by.invariant.settled es g) c.try_ways.ensures.rows;
  short = λ w. round_within c.loop-by.by c.loop-by.lengths c.try_ways.new.lengths c.loop-by-test.true c.try_ways.ensures (c.loop-by.invariant.short w);
}

pub returns : goal.returns
returns c = λ es d.
    let g = c.loop-by.invariant.settled es (stands_settled c.args.lengths.now c.stand_still.new.lengths c.stand_still.ensures es d) in
    settled_table es c.loop-by.lengths (subst (λ k. Settled es k (at c.loop-by.lengths)) (omega arith) g)
