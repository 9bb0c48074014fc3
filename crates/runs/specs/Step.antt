-- What one call does to a board and to the tables. Assumes nothing.
use Rattle.std.specs.Prelude.{◌≡◌, ℕ, List, ℤ, Result}
use Rattle.faults.specs.declared.fault.Fault.{Fault}
use Rattle.trips.specs.declared.trip.Trip.{Trip}
use Rattle.board.specs.Refusals.{add_refusal, withdraw_refusal, limit_refusal, answer}
use Rattle.plans.specs.declared.plan.Plan.{Plan}
use Rattle.plans.specs.Terms.{Terms}
use Rattle.plans.specs.Answers.{Tables, Answers}
use Rattle.calls.specs.declared.call.Call.{Call}
use Rattle.calls.specs.declared.call.Call.TheVariants.{Add, Withdraw, SetLimit, Plan as a_plan}
use Rattle.runs.specs.Heard.{Answer, done, planned}

-- a call that alters the board leaves the tables
abbrev pub Leaves : {V : Type 0} → Result (Unit {0}) Fault → Tables V → Answer V → Tables V → Type 0
Leaves result before told after = (told ≡ done result) × (after ≡ before)

-- a plan answers as it should
abbrev pub Plans : {V : Type 0} → (V → List ℤ) → Terms → List Trip → ℕ → Tables V → Answer V → Tables V → Type 0
Plans {V = V} row terms ts limit before told after = (result : Result (Plan V) Fault) × (told ≡ planned result) × Answers row terms ts limit before result after

-- what is told of a call, and what the tables hold then
abbrev pub Step : {V : Type 0} → (V → List ℤ) → Terms → List Trip → ℕ → Call → Tables V → Answer V → Tables V → Type 0
Step row terms ts limit (Add t) before told after = Leaves (answer (add_refusal terms.yard ts t) t.number) before told after
Step row terms ts limit (Withdraw n) before told after = Leaves (answer (withdraw_refusal ts n) n) before told after
Step row terms ts limit (SetLimit n) before told after = Leaves (answer (limit_refusal n) n) before told after
Step row terms ts limit a_plan before told after = Plans row terms ts limit before told after
