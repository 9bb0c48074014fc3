-- What is proved of duties and their prices. Assumes nothing.
use Rattle.std.specs.Prelude.{◌≡◌, ℕ, ◌<◌, ◌≤◌, List, length, ℤ, pos, ◌+ℤ◌, ◌-ℤ◌, ◌*ℤ◌, ◌≤ℤ◌, Some}
use Rattle.duties.specs.Duties.{wholes, Net, Links, cost, positions, below, missing, sum_over, Selection, Cover}
use Rattle.duties.specs.Tables.{Table, duties_of}
use Rattle.duties.specs.Traces.{Traced, Tight}

-- Prices: each trip has a price to come to it and one to leave it, and a duty has an allowance. No step of a duty costs less than the prices that it joins.
pub record Prices (N : Net ℤ) (a b : ℕ → ℤ) (h : ℤ) : Type 0 where
  pub open_ok : (j : ℕ) → j < N.trips → a j ≤ℤ (N.opens j +ℤ h)
  pub home_ok : (i : ℕ) → i < N.trips → b i ≤ℤ N.homes i
  pub link_ok : (i j : ℕ) (c : ℤ) → i < N.trips → j < N.trips → N.link i j ≡ Some c → (b i +ℤ a j) ≤ℤ c

-- the price of a trip
abbrev pub price : (ℕ → ℤ) → (ℕ → ℤ) → ℕ → ℤ
price a b i = a i +ℤ b i

-- A selection costs at least the prices of all trips, less those of the trips that it leaves out, less the allowance of each duty.
abbrev pub Bound : Type 0
Bound = (N : Net ℤ) (a b : ℕ → ℤ) (h : ℤ) → Prices N a b h → (ds : List (List ℕ)) → Selection N ds
    → (sum_over wholes (price a b) (below N.trips) -ℤ sum_over wholes (price a b) (missing N.trips (positions ds)) -ℤ pos (length ds) *ℤ h) ≤ℤ cost wholes N ds

-- A table means a cover.
abbrev pub CoverFromTable : Type 0
CoverFromTable = (N : Net ℤ) (t : List ℕ) → Table N t → (ds : List (List ℕ)) × Traced N t ds

-- That cover is the table's duties in board order of their first trips.
abbrev pub DutiesTraced : Type 0
DutiesTraced = (N : Net ℤ) (t : List ℕ) → Table N t → Traced N t (duties_of t)

-- With prices that the table meets exactly, that cover costs the prices of all trips, less the allowance of each duty.
abbrev pub TightCost : Type 0
TightCost = (N : Net ℤ) (t : List ℕ) (a b : ℕ → ℤ) (h : ℤ) → Table N t → Tight N t a b h → (ds : List (List ℕ)) → Traced N t ds
    → cost wholes N ds ≡ sum_over wholes (price a b) (below N.trips) -ℤ pos (length ds) *ℤ h

-- A cover leaves nothing out.
abbrev pub CoverBound : Type 0
CoverBound = (N : Net ℤ) (a b : ℕ → ℤ) (h : ℤ) → Prices N a b h → (ds : List (List ℕ)) → Cover N ds
    → (sum_over wholes (price a b) (below N.trips) -ℤ pos (length ds) *ℤ h) ≤ℤ cost wholes N ds

-- Prices of at most 1 to come to a trip and at most 0 to leave it, which no link joins to more than 0.
pub record Counters (N : Net ℤ) (a b : ℕ → ℤ) : Type 0 where
  pub open_ok : (j : ℕ) → j < N.trips → a j ≤ℤ pos 1
  pub home_ok : (i : ℕ) → i < N.trips → b i ≤ℤ pos 0
  pub link_ok : (i j : ℕ) → i < N.trips → j < N.trips → Links N i j → (b i +ℤ a j) ≤ℤ pos 0

-- Such prices say that every cover has at least d duties.
abbrev pub Fewest : Type 0
Fewest = (N : Net ℤ) (a b : ℕ → ℤ) → Counters N a b → (d : ℕ) → pos d ≤ℤ sum_over wholes (price a b) (below N.trips) → (ds : List (List ℕ)) → Cover N ds → d ≤ length ds
