-- What it is right to hear of a call. Assumes nothing.
use Rattle.std.specs.Prelude.{◌≡◌, ℕ, List, length, ℤ, Err, Result, ◌≢◌}
use Rattle.faults.specs.declared.fault.Fault.{Fault}
use Rattle.faults.specs.declared.layer.Layer.TheVariants.{Board}
use Rattle.faults.specs.declared.refusal.Refusal.TheVariants.{NotServed}
use Rattle.faults.specs.Shown.{fault_at}
use Rattle.trips.specs.declared.trip.Trip.{Trip}
use Rattle.board.specs.Refusals.{add_refusal, withdraw_refusal, limit_refusal, answer}
use Rattle.plans.specs.declared.plan.Plan.{Plan}
use Rattle.plans.specs.Terms.{Terms}
use Rattle.plans.specs.Answers.{Tables, Answers}
use Rattle.plans.specs.Exact.{Exact}
use Rattle.calls.specs.declared.call.Call.{Call}
use Rattle.calls.specs.declared.call.Call.TheVariants.{Add, Withdraw, SetLimit, Plan as a_plan}
use Rattle.runs.specs.Heard.{Heard, done, planned}

-- The tables as a plan finds them: successors and prices hold what was heard last, the work tables have so many entries.
pub record Found {V : Type 0} (heard : Heard V) (numbers values : ℕ) (tables : Tables V) : Type 0 where
  pub successors_are : tables.successors ≡ heard.successors
  pub prices_are : tables.prices ≡ heard.prices
  pub numbers_long : length tables.numbers ≡ numbers
  pub values_long : length tables.values ≡ values

-- What it is right to hear of a call that alters the board: its answer, while successors and prices are as they were.
pub record RightDone {V : Type 0} (result : Result (Unit {0}) Fault) (before after : Heard V) : Type 0 where
  pub answer_is : after.answer ≡ done result
  pub same_successors : after.successors ≡ before.successors
  pub same_prices : after.prices ≡ before.prices

-- What it is right to hear of a plan for the trips ts within a limit: what plan answers, of tables that hold what was heard before, and what they hold then.
-- It is never refused because the rule does not serve a trip: such a trip does not stand.
pub record RightPlan {V : Type 0} (row : V → List ℤ) (terms : Terms) (ts : List Trip) (limit numbers values : ℕ) (before after : Heard V) : Type 0 where
  pub result : Result (Plan V) Fault
  pub answer_is : after.answer ≡ planned result
  pub tables : Tables V
  pub found : Found before numbers values tables
  pub tables_after : Tables V
  pub left : Found after numbers values tables_after
  pub answers : Answers row terms ts limit tables result tables_after
  pub exact : Exact terms ts limit tables result
  pub served : (number : ℕ) → result ≢ Err (fault_at Board NotServed number)

-- What it is right to hear of a call where the trips ts stand and a limit is in force: before was heard last, after is heard now.
abbrev pub Right : {V : Type 0} → (V → List ℤ) → Terms → List Trip → ℕ → ℕ → ℕ → Call → Heard V → Heard V → Type 0
Right row terms ts limit numbers values (Add t) before after = RightDone (answer (add_refusal terms.yard ts t) t.number) before after
Right row terms ts limit numbers values (Withdraw n) before after = RightDone (answer (withdraw_refusal ts n) n) before after
Right row terms ts limit numbers values (SetLimit n) before after = RightDone (answer (limit_refusal n) n) before after
Right row terms ts limit numbers values a_plan before after = RightPlan row terms ts limit numbers values before after
