-- What a search leaves in tables that may be longer than the day. Assumes nothing.
use Rattle.std.specs.Prelude.{◌≡◌, ℕ, false, List, ℤ, Ok, Err, Result}
use Rattle.faults.specs.declared.fault.Fault.{Fault}
use Rattle.faults.specs.declared.layer.Layer.TheVariants.{Planner}
use Rattle.faults.specs.declared.refusal.Refusal.TheVariants.{TooFewHulls, CostTooHigh}
use Rattle.faults.specs.Shown.{fault_at}
use Rattle.trips.specs.declared.trip.Trip.{Trip}
use Rattle.plans.specs.declared.plan.Plan.{Plan}
use Rattle.plans.specs.Terms.{Terms, day_of}
use Rattle.plans.specs.Answers.{Tables, cost_high, Written, SameResults}
use Rattle.planner.specs.declared.outcome.Unplanned.{Unplanned}
use Rattle.planner.specs.declared.outcome.Unplanned.TheVariants.{TooFew, TooDear}
use Rattle.planner.specs.Outcomes.{Why}

-- a plan is written, or there is none and the results are as they were
abbrev pub Searched : {V : Type 0} → (V → List ℤ) → Terms → List Trip → ℕ → Tables V → Result (Plan V) Unplanned → Tables V → Type 0
Searched row terms ts limit before (Ok plan) after = Written row terms ts limit before plan after × (cost_high (row plan.cost) ≡ false)
Searched row terms ts limit before (Err why) after = Why terms.places (day_of terms ts) limit why × SameResults before after

-- the fault by which it is told that there is no plan
abbrev pub unplanned_fault : Unplanned → Fault
unplanned_fault (TooFew fewest) = fault_at Planner TooFewHulls fewest
unplanned_fault TooDear = fault_at Planner CostTooHigh 0
