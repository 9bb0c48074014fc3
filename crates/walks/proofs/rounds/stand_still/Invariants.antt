use Rattle.walks.specs.Tables.{Stands}
use Rattle.walks.proofs.rounds.stand_still.Given as goal

abbrev pub invariant-loop-berth : goal.invariant-loop-berth
invariant-loop-berth l = Stands l.berth l.initial.lengths l.lengths
