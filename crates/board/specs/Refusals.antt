-- When a call on a board is refused, what it answers, and what stands after it. Assumes nothing.
use Rattle.std.specs.Prelude.{ℕ, Bool, cond, not, List, [], ◌∷◌, length, is_some, Some, None, Ok, Err, Option, Result, nat_le, nat_lt}
use Rattle.faults.specs.declared.fault.Fault.{Fault}
use Rattle.faults.specs.declared.layer.Layer.TheVariants.{Board}
use Rattle.faults.specs.declared.refusal.Refusal.{Refusal}
use Rattle.faults.specs.declared.refusal.Refusal.TheVariants.{TripOutOfRange, NotBeforeArrival, NumberStands, NotServed, BoardFull, NumberDoesNotStand, LimitTooHigh}
use Rattle.faults.specs.Shown.{fault_at}
use Rattle.rules.specs.declared.rule.YardCents.{YardCents}
use Rattle.trips.specs.declared.trip.Trip.{Trip}
use Rattle.board.specs.Ranges.{in_range, departs_first}
use Rattle.board.specs.Lists.{stands, added, without}

-- the first refusal whose test holds
abbrev pub first : List (Bool × Refusal) → Option Refusal
first [] = None
first (x ∷ xs) = cond x.0 (Some x.1) (first xs)

-- why a trip is not added, under a rule with these yard cents: the tests in the order in which they are tried, each beside its refusal
abbrev pub add_refusal : (Trip → Option YardCents) → List Trip → Trip → Option Refusal
add_refusal yard ts t =
    first
    ((not (in_range t), TripOutOfRange)
    ∷ (not (departs_first t), NotBeforeArrival)
    ∷ (stands ts t.number, NumberStands)
    ∷ (not (is_some (yard t)), NotServed)
    ∷ (nat_le 200 (length ts), BoardFull)
    ∷ [])

-- why no trip is taken off
abbrev pub withdraw_refusal : List Trip → ℕ → Option Refusal
withdraw_refusal ts n = first ((not (stands ts n), NumberDoesNotStand) ∷ [])

-- why a limit is not set
abbrev pub limit_refusal : ℕ → Option Refusal
limit_refusal n = first ((nat_lt 200 n, LimitTooHigh) ∷ [])

-- what a call answers: the fault where there is a reason to refuse it
abbrev pub answer : Option Refusal → ℕ → Result (Unit {0}) Fault
answer None place = Ok tt
answer (Some refusal) place = Err (fault_at Board refusal place)

-- what holds after a call: what held before where it is refused, and else what the call makes of it
abbrev pub unless_refused : {X : Type 0} → Option Refusal → X → X → X
unless_refused None old new = new
unless_refused (Some refusal) old new = old

-- the trips that stand after one is added, if it is not refused
abbrev pub after_add : (Trip → Option YardCents) → List Trip → Trip → List Trip
after_add yard ts t = unless_refused (add_refusal yard ts t) ts (added ts t)

-- the trips that stand after one is withdrawn, if that is not refused
abbrev pub after_withdraw : List Trip → ℕ → List Trip
after_withdraw ts n = unless_refused (withdraw_refusal ts n) ts (without ts n)

-- the limit after it is set, if that is not refused
abbrev pub after_set_limit : ℕ → ℕ → ℕ
after_set_limit old new = unless_refused (limit_refusal new) old new
