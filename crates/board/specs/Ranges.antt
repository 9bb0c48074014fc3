-- The ranges of a trip's values. Assumes nothing.
use Rattle.std.specs.Prelude.{◌≡◌, ℕ, ◌<◌, Bool, true, ◌&&◌, List, length, nat_le, nat_lt, slice_index_or}
use Rattle.trips.specs.declared.trip.Trip.{Trip}
use Rattle.trips.specs.Default.{no_trip}

-- numbers go from 1 (to the 65,535 that they can hold), berths from 0 to 31, and times from 0 to 20,160
abbrev pub in_range : Trip → Bool
in_range t = nat_le 1 t.number && (nat_le t.start 31 && (nat_le t.departure 20160 && (nat_le t.end 31 && nat_le t.arrival 20160)))

-- the trip departs before it arrives
abbrev pub departs_first : Trip → Bool
departs_first t = nat_lt t.departure t.arrival

-- each trip is in its ranges and departs before it arrives
abbrev pub AllSound : List Trip → Type 0
AllSound ts = (i : ℕ) → i < length ts → (in_range (slice_index_or ts i no_trip) && departs_first (slice_index_or ts i no_trip)) ≡ true
