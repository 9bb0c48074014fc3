-- The calls that a tape holds. Assumes nothing.
use Rattle.std.specs.Prelude.{◌≡◌, ℕ, List, map, Option}
use Rattle.faults.specs.declared.fault.Fault.{Fault}
use Rattle.tape.specs.declared.command.Command.{Command}
use Rattle.tape.specs.declared.command.Command.TheVariants.{Add, Withdraw, Limit, Plan}
use Rattle.tape.specs.Holds.{Reads}
use Rattle.calls.specs.declared.call.Call.{Call}
use Rattle.calls.specs.declared.call.Call.TheVariants.{Add as to_add, Withdraw as to_withdraw, SetLimit as to_set_limit, Plan as to_plan}

-- the call that a command stands for: the five operands of an added trip are its values in their order
abbrev pub call_of : Command → Call
call_of (Add number start departure end arrival) = to_add (record { number = number; start = start; departure = departure; end = end; arrival = arrival })
call_of (Withdraw number) = to_withdraw number
call_of (Limit limit) = to_set_limit limit
call_of Plan = to_plan

-- a tape holds these calls and this fault: the calls are those of the commands that it holds before the fault, one by one
pub record HoldsCalls (tape : List ℕ) (calls : List Call) (fault : Option Fault) : Type 0 where
  pub commands : List Command
  pub reads : Reads tape commands fault
  pub calls_are : calls ≡ map call_of commands
