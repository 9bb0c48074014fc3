-- What a board shows: two functions and no model, since a call mostly changes one of them and the crates above name each alone. Assumes nothing.
use Rattle.std.specs.Prelude.{ℕ, List, vec_items}
use Rattle.trips.specs.declared.trip.Trip.{Trip}
use Rattle.board.specs.declared.board.Board.{Board}

-- the trips that stand on a board
abbrev pub trips_of : Board → List Trip
trips_of b = vec_items b.trips

-- the most duties that they may take
abbrev pub limit_of : Board → ℕ
limit_of b = b.limit
