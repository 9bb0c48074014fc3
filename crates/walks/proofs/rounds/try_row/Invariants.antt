use Rattle.walks.proofs.Rows.{RowBelow}
use Rattle.walks.proofs.rounds.try_row.Given as goal

abbrev pub invariant-loop-to : goal.invariant-loop-to
invariant-loop-to l = RowBelow l.first l.onward l.initial.row l.to l.row
