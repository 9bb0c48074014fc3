-- What a plan promises, in exact rows, and when hulls are too few. Assumes nothing.
use Rattle.std.specs.Prelude.{◌≡◌, ℕ, ◌<◌, ◌≤◌, false, List, length, ℤ, pos, ◌-ℤ◌}
use Rattle.std.specs.List.{AllByRecursion}
use Rattle.rows.specs.Places.{scaled, below}
use Rattle.duties.specs.Duties.{Net, Selection, Cover, positions, missing, below as upto}
use Rattle.duties.specs.Tables.{Table, Follows, duties_of}
use Rattle.duties.specs.Rows.{zeros, less, cost_row, prices_of}

-- An accepted plan of a day's trips, in rows of c places: the successor table, a price for each trip, the number of duties, their cost, and the hull price.
pub record Accepted (c : ℕ) (day : Net (List ℤ)) (limit : ℕ) (table : List ℕ) (prices : List (List ℤ)) (number : ℕ) (cost hull : List ℤ) : Type 0 where
  -- each entry is home or a later trip that is linked, and no trip is entered twice
  pub entries : Table day table
  -- each trip stands in exactly one duty of the table, and each trip of a duty is linked to the next
  pub cover : Cover day (duties_of table)
  -- each duty goes on as the entries say, and then home
  pub follows : AllByRecursion (Follows table) (duties_of table)
  pub number_is : number ≡ length (duties_of table)
  pub within_limit : number ≤ limit
  pub cost_is : cost ≡ cost_row c day (duties_of table)
  pub priced : length prices ≡ day.trips
  -- the cost is all prices together, less the limit times the hull price
  pub identity : cost ≡ less (prices_of c prices (upto day.trips)) (scaled (pos limit) hull)
  -- the hull price is not below zero
  pub hull_up : below hull (zeros c) ≡ false
  -- any duties in which no trip stands twice cost at least the plan's cost, less the prices of the trips left out, less (their number minus the limit) times the hull price
  pub bound : (ds : List (List ℕ)) → Selection day ds
      → below (cost_row c day ds) (less (less cost (prices_of c prices (missing day.trips (positions ds)))) (scaled (pos (length ds) -ℤ pos limit) hull)) ≡ false
  -- no cover within the limit costs less
  pub cheapest : (ds : List (List ℕ)) → Cover day ds → length ds ≤ limit → below (cost_row c day ds) cost ≡ false

-- Every cover has more duties than the limit: some cover has `fewest` duties, and every other at least as many.
pub record TooFew {V : Type 0} (day : Net V) (limit fewest : ℕ) : Type 0 where
  pub duties : List (List ℕ)
  pub cover : Cover day duties
  pub number_is : length duties ≡ fewest
  pub over : limit < fewest
  pub least : (ds : List (List ℕ)) → Cover day ds → fewest ≤ length ds
