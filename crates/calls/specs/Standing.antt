-- The trips that stand, and the limit in force, after calls on a new board: by the rules of the board, call after call. Assumes nothing.
use Rattle.std.specs.Prelude.{ℕ, List, [], ◌∷◌, Option}
use Rattle.trips.specs.declared.trip.Trip.{Trip}
use Rattle.trips.specs.Default.{no_trip}
use Rattle.rules.specs.declared.rule.YardCents.{YardCents}
use Rattle.board.specs.Refusals.{after_add, after_withdraw, after_set_limit}
use Rattle.calls.specs.declared.call.Call.{Call}
use Rattle.calls.specs.declared.call.Call.TheVariants.{Add, Withdraw, SetLimit, Plan}

-- the trips after one call, under a rule with these yard cents
abbrev pub after_call : (Trip → Option YardCents) → List Trip → Call → List Trip
after_call yard ts (Add t) = after_add yard ts t
after_call yard ts (Withdraw n) = after_withdraw ts n
after_call yard ts (SetLimit n) = ts
after_call yard ts Plan = ts

-- the limit after one call
abbrev pub limit_after_call : ℕ → Call → ℕ
limit_after_call limit (Add t) = limit
limit_after_call limit (Withdraw n) = limit
limit_after_call limit (SetLimit n) = after_set_limit limit n
limit_after_call limit Plan = limit

-- the trips after calls where the trips ts stood
abbrev pub standing_from : (Trip → Option YardCents) → List Trip → List Call → List Trip
standing_from yard ts [] = ts
standing_from yard ts (c ∷ cs) = standing_from yard (after_call yard ts c) cs

-- the limit after calls where another was in force
abbrev pub limit_from : ℕ → List Call → ℕ
limit_from limit [] = limit
limit_from limit (c ∷ cs) = limit_from (limit_after_call limit c) cs

-- the trips that stand after calls on a new board
abbrev pub standing : (Trip → Option YardCents) → List Call → List Trip
standing yard cs = standing_from yard [] cs

-- the limit in force after calls on a new board
abbrev pub limit_after : List Call → ℕ
limit_after cs = limit_from 0 cs

-- what is read past the end of a list of calls
abbrev pub no_call : Call
no_call = Add no_trip
