use Rattle.std.proofs.Common.{◌*◌, ◌^◌, List}
use Rattle.walks.specs.declared.edge.Edge.{Edge}
use Rattle.walks.specs.Tables.{at, Within}
use Rattle.walks.proofs.Relaxing.{Settled}
use Rattle.walks.proofs.rounds.settle.Given as goal

-- Whatever the edges are whose lengths the table held where the loop began; a round at most doubles a length.
abbrev pub invariant-loop-by : goal.invariant-loop-by
invariant-loop-by l =
    record {
      settled : (es : List Edge) → Settled es 0 (at l.initial.lengths) → Settled es l.by (at l.lengths);
      short : Within 65535 l.initial.lengths → Within (65535 * 2 ^ l.by) l.lengths;
    }
