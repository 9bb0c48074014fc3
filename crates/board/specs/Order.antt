-- The order in which trips stand. Assumes nothing.
use Rattle.std.specs.Prelude.{◌≡◌, ℕ, ◌<◌, Bool, true, false, ◌&&◌, ◌||◌, List, length, get_or, ◌==◌, nat_lt, slice_index_or}
use Rattle.trips.specs.declared.trip.Trip.{Trip}
use Rattle.trips.specs.Default.{no_trip}

-- a trip stands before another that departs later, or at the same time with a higher number
abbrev pub before : Trip → Trip → Bool
before a b = nat_lt a.departure b.departure || (a.departure == b.departure && nat_lt a.number b.number)

-- board order: each trip stands before all that come after it in the list
abbrev pub InOrder : List Trip → Type 0
InOrder ts = (i j : ℕ) → (i < j) × (j < length ts) → before (slice_index_or ts i no_trip) (slice_index_or ts j no_trip) ≡ true

-- no number stands twice
abbrev pub NumbersDiffer : List Trip → Type 0
NumbersDiffer ts = (i j : ℕ) → (i < j) × (j < length ts) → ((get_or ts i no_trip).number == (get_or ts j no_trip).number) ≡ false
