use Rattle.walks.specs.Tables.{Tried}
use Rattle.walks.proofs.rounds.try_ways.Given as goal

abbrev pub invariant-loop-row : goal.invariant-loop-row
invariant-loop-row l = Tried l.by l.row-index l.initial.lengths l.lengths
