-- What a list of links says of two trips. Assumes nothing.
use Rattle.std.specs.Prelude.{ℕ, Bool, cond, ◌&&◌, List, [], ◌∷◌, Some, None, Option, ◌==◌}
use Rattle.trips.specs.declared.trip.Trip.{Trip}
use Rattle.trips.specs.Gaps.{gap_lies_within}
use Rattle.tow_sheets.specs.declared.links.Link.{Link}

-- whether a link is of the trips with these numbers
abbrev pub is_of_pair : ℕ → ℕ → Link → Bool
is_of_pair tail head l = l.tail == tail && l.head == head

-- the listed link of a pair of trips, the first where there are more
abbrev pub listed : List Link → ℕ → ℕ → Option Link
listed [] tail head = None
listed (l ∷ ls) tail head = cond (is_of_pair tail head l) (Some l) (listed ls tail head)

-- the cost of a link, if there is one and the gap between the two trips is from its lower to its upper bound
abbrev pub cost_within : Trip → Trip → Option Link → Option ℕ
cost_within a b None = None
cost_within a b (Some l) = cond (gap_lies_within l.lower l.upper a b) (Some l.cost) None

-- the cost of the listed link from one trip to another, where the gap fits
abbrev pub listed_link : List Link → Trip → Trip → Option ℕ
listed_link links a b = cost_within a b (listed links a.number b.number)
