-- What is printed of calls, and of a tape. Assumes nothing.
use Rattle.std.specs.Prelude.{◌≡◌, ℕ, List, ◌++◌, length, ℤ, Option}
use Rattle.faults.specs.declared.fault.Fault.{Fault}
use Rattle.calls.specs.declared.call.Call.{Call}
use Rattle.plans.specs.Terms.{Terms}
use Rattle.runs.specs.Heard.{Heard}
use Rattle.runs.specs.Ran.{at_start, RightUpto}
use Rattle.tape_calls.specs.Calls.{HoldsCalls}
use Rattle.tape_report.specs.Texts.{heard_texts, fault_last}

-- The lines of calls on a new board, of each what is right to hear of it. The tables have room for the 200 trips of a full board.
pub record CallLines {V : Type 0} (row : V → List ℤ) (terms : Terms) (calls : List Call) (text : List ℕ) : Type 0 where
  pub successors : List ℕ
  pub prices : List V
  pub successors_long : length successors ≡ 200
  pub prices_long : length prices ≡ 200
  pub heard : List (Heard V)
  pub all_right : RightUpto row terms 804 804 calls (at_start successors prices) (length calls) heard
  pub text_is : text ≡ heard_texts row heard

-- The lines of the calls that a tape holds, and then the line of its fault.
pub record TapePrints {V : Type 0} (row : V → List ℤ) (terms : Terms) (tape text : List ℕ) : Type 0 where
  pub calls : List Call
  pub fault : Option Fault
  pub holds : HoldsCalls tape calls fault
  pub lines : List ℕ
  pub of_calls : CallLines row terms calls lines
  pub text_is : text ≡ lines ++ fault_last fault
