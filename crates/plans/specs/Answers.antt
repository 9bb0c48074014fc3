-- What plan answers, and what the tables hold after it. Assumes nothing.
use Rattle.std.specs.Prelude.{◌≡◌, ℕ, ◌+◌, ◌*◌, ◌<◌, Bool, true, false, ◌||◌, List, [], ◌∷◌, map, length, get_or, take, drop, ℤ, pos, neg_ℤ, is_some, Ok, Err, Option, Result, int_lt, nat_lt, slice_index_or}
use Rattle.faults.specs.declared.fault.Fault.{Fault}
use Rattle.faults.specs.declared.layer.Layer.TheVariants.{Board, Planner}
use Rattle.faults.specs.declared.refusal.Refusal.TheVariants.{NotServed, TableTooShort, FeeTooHigh, TooFewHulls, CostTooHigh}
use Rattle.faults.specs.Shown.{fault_at}
use Rattle.trips.specs.declared.trip.Trip.{Trip}
use Rattle.trips.specs.Default.{no_trip}
use Rattle.rules.specs.declared.rule.YardCents.{YardCents}
use Rattle.board.specs.Standing.{AllServed}
use Rattle.duties.specs.Duties.{Net}
use Rattle.duties.specs.Plans.{Accepted, TooFew}
use Rattle.plans.specs.declared.plan.Plan.{Plan}
use Rattle.plans.specs.Terms.{Terms, day_of}

-- What the tables that plan is given hold: a successor and a price for each trip, and work tables of numbers and of values.
pub record Tables (V : Type 0) : Type 0 where
  pub successors : List ℕ
  pub prices : List V
  pub numbers : List ℕ
  pub values : List V

-- Under a rule with these yard cents, the first trip, in board order, that is not served stands at position k.
pub record FirstUnserved (yard : Trip → Option YardCents) (ts : List Trip) (k : ℕ) : Type 0 where
  pub within : k < length ts
  pub unserved : is_some (yard (slice_index_or ts k no_trip)) ≡ false
  pub earlier : (i : ℕ) → i < k → is_some (yard (slice_index_or ts i no_trip)) ≡ true

-- whether tables of these lengths are too short for n trips: successors and prices want n entries each, the work tables 4n + 4
abbrev pub short : ℕ → ℕ → ℕ → ℕ → ℕ → Bool
short n successors prices numbers values = nat_lt successors n || (nat_lt prices n || (nat_lt numbers (4 * n + 4) || nat_lt values (4 * n + 4)))

-- whether some table is too short for n trips
abbrev pub too_short : {V : Type 0} → ℕ → Tables V → Bool
too_short n tables = short n (length tables.successors) (length tables.prices) (length tables.numbers) (length tables.values)

-- whether a fee is above 1,000,000,000
abbrev pub fee_high : ℕ → Bool
fee_high fee = nat_lt 1000000000 fee

-- whether a number is past 10^15, on either side of zero
abbrev pub past : ℤ → Bool
past x = int_lt (pos 1000000000000000) x || int_lt x (neg_ℤ (pos 1000000000000000))

-- whether some place of a cost is
abbrev pub cost_high : List ℤ → Bool
cost_high [] = false
cost_high (x ∷ xs) = past x || cost_high xs

-- None of the refusals that come before any search applies.
pub record Plannable {V : Type 0} (terms : Terms) (ts : List Trip) (tables : Tables V) : Type 0 where
  pub served : AllServed terms.yard ts
  pub long : too_short (length ts) tables ≡ false
  pub fee_within : fee_high terms.fee ≡ false

-- the results are as they were; the work tables may not be
abbrev pub SameResults : {V : Type 0} → Tables V → Tables V → Type 0
SameResults before after = (after.successors ≡ before.successors) × (after.prices ≡ before.prices)

-- The first n entries of the results are those of a plan, and the entries past them are as they were.
pub record Written {V : Type 0} (row : V → List ℤ) (terms : Terms) (ts : List Trip) (limit : ℕ) (before : Tables V) (plan : Plan V) (after : Tables V) : Type 0 where
  pub accepted : Accepted terms.places (day_of terms ts) limit (take (length ts) after.successors) (map row (take (length ts) after.prices)) plan.duties (row plan.cost) (row plan.hull_price)
  pub past_successors : drop (length ts) after.successors ≡ drop (length ts) before.successors
  pub past_prices : drop (length ts) after.prices ≡ drop (length ts) before.prices

-- A plan of the day would be accepted, but for its cost, in rows of c places.
pub record TooDear (c : ℕ) (day : Net (List ℤ)) (limit : ℕ) : Type 0 where
  pub table : List ℕ
  pub prices : List (List ℤ)
  pub number : ℕ
  pub cost : List ℤ
  pub hull : List ℤ
  pub accepted : Accepted c day limit table prices number cost hull
  pub high : cost_high cost ≡ true

-- What plan answers for the trips ts, in board order, within a limit, and what the tables hold then: the refusals are tried in this order, and a plan is accepted
-- where none applies.
pub data Answers {V : Type 0} (row : V → List ℤ) (terms : Terms) (ts : List Trip) (limit : ℕ) (before : Tables V) : Result (Plan V) Fault → Tables V → Type 0 where
  not_served : (k : ℕ) → FirstUnserved terms.yard ts k → Answers row terms ts limit before (Err (fault_at Board NotServed (get_or ts k no_trip).number)) before
  table_too_short : AllServed terms.yard ts → too_short (length ts) before ≡ true → Answers row terms ts limit before (Err (fault_at Planner TableTooShort 0)) before
  fee_too_high : AllServed terms.yard ts → too_short (length ts) before ≡ false → fee_high terms.fee ≡ true → Answers row terms ts limit before (Err (fault_at Planner FeeTooHigh 0)) before
  too_few_hulls : Plannable terms ts before → (fewest : ℕ) → TooFew (day_of terms ts) limit fewest → (after : Tables V) → SameResults before after
      → Answers row terms ts limit before (Err (fault_at Planner TooFewHulls fewest)) after
  cost_too_high : Plannable terms ts before → TooDear terms.places (day_of terms ts) limit → (after : Tables V) → SameResults before after → Answers row terms ts limit before (Err (fault_at Planner CostTooHigh 0)) after
  planned : Plannable terms ts before → (plan : Plan V) (after : Tables V) → Written row terms ts limit before plan after → cost_high (row plan.cost) ≡ false
      → Answers row terms ts limit before (Ok plan) after
