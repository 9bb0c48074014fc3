-- What a search over a day comes to, and what it leaves in the tables of successors and prices, which have an entry for each trip. Assumes nothing.
use Rattle.std.specs.Prelude.{◌≡◌, ℕ, false, List, map, ℤ, Ok, Err, Result}
use Rattle.duties.specs.Duties.{Net}
use Rattle.duties.specs.Plans.{Accepted, TooFew as Fewer}
use Rattle.plans.specs.declared.plan.Plan.{Plan}
use Rattle.plans.specs.Answers.{cost_high, TooDear as Dearer}
use Rattle.planner.specs.declared.outcome.Unplanned.{Unplanned}
use Rattle.planner.specs.declared.outcome.Unplanned.TheVariants.{TooFew, TooDear}

-- why there is no plan
abbrev pub Why : ℕ → Net (List ℤ) → ℕ → Unplanned → Type 0
Why c day limit (TooFew fewest) = Fewer day limit fewest
Why c day limit TooDear = Dearer c day limit

-- a plan stands in the tables; or there is none, and the tables are as they were
abbrev pub Comes : {V : Type 0} → (V → List ℤ) → ℕ → Net (List ℤ) → ℕ → List ℕ → List V → Result (Plan V) Unplanned → List ℕ → List V → Type 0
Comes row c day limit successors prices (Ok plan) successors' prices' =
    Accepted c day limit successors' (map row prices') plan.duties (row plan.cost) (row plan.hull_price) × (cost_high (row plan.cost) ≡ false)
Comes row c day limit successors prices (Err why) successors' prices' = Why c day limit why × (successors' ≡ successors) × (prices' ≡ prices)
