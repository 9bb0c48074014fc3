use Rattle.std.proofs.Common.{replicate, None, sym, ◌∙◌, arith}
use Rattle.walks.proofs.Leasts.{no_some}
use Rattle.walks.proofs.Entries.{none_at}
use Rattle.walks.proofs.Laying.{laid_none, laid_more, laid_all}
use Rattle.walks.proofs.direct.direct_lengths.Goals as goal

pub loop-edge-init : goal.loop-edge-init
loop-edge-init c = record {
  laid = laid_none c.args.edges.now (replicate 32 (replicate 32 None)) (none_at 32 32);
  short = λ x y n hx hy e. no_some n (sym (none_at 32 32 x y) ∙ e);
}

pub loop-edge-preserved : goal.loop-edge-preserved
loop-edge-preserved c = record {
  laid = laid_more c.args.edges.now c.loop-edge.edge-index c.loop-edge.lengths c.lay_edge.new.lengths (omega arith) c.loop-edge.invariant.laid c.lay_edge.ensures.laid;
  short = c.lay_edge.ensures.short c.loop-edge.invariant.short;
}

pub returns-clause-direct : goal.returns-clause-direct
returns-clause-direct c = laid_all c.args.edges.now c.loop-edge.edge-index c.loop-edge.lengths (omega arith) c.loop-edge.invariant.laid
