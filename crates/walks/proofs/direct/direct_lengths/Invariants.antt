use Rattle.walks.specs.Tables.{Within}
use Rattle.walks.proofs.Laying.{Laid}
use Rattle.walks.proofs.direct.direct_lengths.Given as goal

abbrev pub invariant-loop-edge : goal.invariant-loop-edge
invariant-loop-edge l = record { laid : Laid l.edges l.edge-index l.lengths; short : Within 65535 l.lengths }
