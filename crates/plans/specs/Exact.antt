-- When exactly hulls are too few, and when exactly a plan is accepted. Assumes nothing.
use Rattle.std.specs.Prelude.{◌≡◌, ℕ, ◌<◌, true, List, length, is_ok, Err, Result}
use Rattle.faults.specs.declared.fault.Fault.{Fault}
use Rattle.faults.specs.declared.layer.Layer.TheVariants.{Planner}
use Rattle.faults.specs.declared.refusal.Refusal.TheVariants.{TooFewHulls}
use Rattle.faults.specs.Shown.{fault_at}
use Rattle.trips.specs.declared.trip.Trip.{Trip}
use Rattle.duties.specs.Duties.{Cover}
use Rattle.plans.specs.declared.plan.Plan.{Plan}
use Rattle.plans.specs.Terms.{Terms, day_of}
use Rattle.plans.specs.Answers.{Tables, Plannable, TooDear}

-- every cover has more duties than the limit
abbrev pub EveryCoverOver : Terms → List Trip → ℕ → Type 0
EveryCoverOver terms ts limit = (ds : List (List ℕ)) → Cover (day_of terms ts) ds → limit < length ds

-- Where no refusal comes before the search: hulls are told to be too few exactly when every cover has more duties than the limit, and the answer is a plan unless
-- that is so or the cost is too high.
pub record Exact {V : Type 0} (terms : Terms) (ts : List Trip) (limit : ℕ) (before : Tables V) (answer : Result (Plan V) Fault) : Type 0 where
  pub too_few_when : Plannable terms ts before → EveryCoverOver terms ts limit → (fewest : ℕ) × (answer ≡ Err (fault_at Planner TooFewHulls fewest))
  pub too_few_only : (fewest : ℕ) → answer ≡ Err (fault_at Planner TooFewHulls fewest) → EveryCoverOver terms ts limit
  pub else_accepted : Plannable terms ts before → (EveryCoverOver terms ts limit → ⊥) → (TooDear terms.places (day_of terms ts) limit → ⊥) → is_ok answer ≡ true
