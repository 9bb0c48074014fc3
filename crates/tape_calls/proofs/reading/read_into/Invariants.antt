use Rattle.std.proofs.Common.{vec_items, vec_capacity}
use Rattle.tape.specs.Readers.{left}
use Rattle.tape_calls.proofs.Turns.{Turn}
use Rattle.tape_calls.proofs.reading.read_into.Given as goal

abbrev pub invariant-loop-item : goal.invariant-loop-item
invariant-loop-item l = Turn l.tape (vec_items l.calls) (left l.item-iterator) (vec_capacity l.calls)
