-- What is heard of a call when it is done. Assumes nothing.
use Rattle.std.specs.Prelude.{ℕ, List, Ok, Err, Result}
use Rattle.faults.specs.declared.fault.Fault.{Fault}
use Rattle.trips.specs.declared.trip.Trip.{Trip}
use Rattle.plans.specs.declared.plan.Plan.{Plan}
use Rattle.calls.specs.declared.answer.Done.{Done}
use Rattle.calls.specs.declared.answer.Done.TheVariants.{Altered, Planned}

-- what a call answers: what it did, or why it is refused
abbrev pub Answer : Type 0 → Type 0
Answer V = Result (Done V) Fault

-- The answer, and then the trips that stand and what the tables of successors and prices hold.
pub record Heard (V : Type 0) : Type 0 where
  pub answer : Answer V
  pub trips : List Trip
  pub successors : List ℕ
  pub prices : List V

-- the answer of a call that alters the board
abbrev pub done : {V : Type 0} → Result (Unit {0}) Fault → Answer V
done (Ok x) = Ok Altered
done (Err fault) = Err fault

-- the answer of a plan
abbrev pub planned : {V : Type 0} → Result (Plan V) Fault → Answer V
planned (Ok plan) = Ok (Planned plan)
planned (Err fault) = Err fault
