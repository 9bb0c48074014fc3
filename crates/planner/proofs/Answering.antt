-- From what was looked at and searched to what plan answers.
use Rattle.std.proofs.Common.{◌≡◌, ℕ, true, false, List, length, get_or, ℤ, Ok, Err, sym, subst}
use Rattle.faults.specs.declared.fault.Fault.{Fault}
use Rattle.faults.specs.declared.layer.Layer.TheVariants.{Board, Planner}
use Rattle.faults.specs.declared.refusal.Refusal.TheVariants.{NotServed, TableTooShort, FeeTooHigh}
use Rattle.faults.specs.Shown.{fault_at}
use Rattle.trips.specs.declared.trip.Trip.{Trip}
use Rattle.trips.specs.Default.{no_trip}
use Rattle.board.specs.Standing.{AllServed}
use Rattle.plans.specs.declared.plan.Plan.{Plan}
use Rattle.plans.specs.Terms.{Terms}
use Rattle.plans.specs.Answers.{Tables, FirstUnserved, Plannable, too_short, fee_high, Answers}
use Rattle.plans.specs.Answers.Answers.{not_served, table_too_short, fee_too_high, too_few_hulls, cost_too_high, planned}
use Rattle.planner.specs.declared.outcome.Unplanned.{Unplanned}
use Rattle.planner.specs.declared.outcome.Unplanned.TheVariants.{TooFew, TooDear}
use Rattle.planner.specs.Answered.{Searched, unplanned_fault}

module _ {V : Type 0} (row : V → List ℤ) (terms : Terms) (ts : List Trip) (limit : ℕ) (before : Tables V) where
  refuses : (told is : Fault) (after : Tables V) → told ≡ is → Answers row terms ts limit before (Err is) after → Answers row terms ts limit before (Err told) after
  refuses told is after e a = subst (λ f. Answers row terms ts limit before (Err f) after) (sym e) a

  pub says_unserved : (k : ℕ) (told : Fault) → told ≡ fault_at Board NotServed (get_or ts k no_trip).number → FirstUnserved terms.yard ts k → Answers row terms ts limit before (Err told) before
  says_unserved k told e u = refuses told _ before e (not_served k u)

  pub says_short : (told : Fault) → told ≡ fault_at Planner TableTooShort 0 → AllServed terms.yard ts → too_short (length ts) before ≡ true → Answers row terms ts limit before (Err told) before
  says_short told e all s = refuses told _ before e (table_too_short all s)

  pub says_fee : (told : Fault) → told ≡ fault_at Planner FeeTooHigh 0 → AllServed terms.yard ts → too_short (length ts) before ≡ false → fee_high terms.fee ≡ true → Answers row terms ts limit before (Err told) before
  says_fee told e all s f = refuses told _ before e (fee_too_high all s f)

  pub says_why : (why : Unplanned) (told : Fault) (after : Tables V) → told ≡ unplanned_fault why → Plannable terms ts before → Searched row terms ts limit before (Err why) after → Answers row terms ts limit before (Err told) after
  says_why (TooFew fewest) told after e p s = refuses told _ after e (too_few_hulls p fewest s.0 after s.1)
  says_why TooDear told after e p s = refuses told _ after e (cost_too_high p s.0 after s.1)

  pub says_plan : (plan : Plan V) (after : Tables V) → Plannable terms ts before → Searched row terms ts limit before (Ok plan) after → Answers row terms ts limit before (Ok plan) after
  says_plan plan after p s = planned p plan after s.0 s.1
