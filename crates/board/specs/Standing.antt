-- What holds of the trips on a board. Assumes nothing.
use Rattle.std.specs.Prelude.{◌≡◌, ℕ, ◌<◌, ◌≤◌, true, List, length, is_some, Option, slice_index_or}
use Rattle.rules.specs.declared.rule.YardCents.{YardCents}
use Rattle.trips.specs.declared.trip.Trip.{Trip}
use Rattle.trips.specs.Default.{no_trip}
use Rattle.board.specs.Order.{InOrder, NumbersDiffer}
use Rattle.board.specs.Ranges.{AllSound}

-- of every board
pub record Standing (ts : List Trip) : Type 0 where
  pub few : length ts ≤ 200
  pub ordered : InOrder ts
  pub differ : NumbersDiffer ts
  pub sound : AllSound ts

-- a rule with these yard cents serves each trip
abbrev pub AllServed : (Trip → Option YardCents) → List Trip → Type 0
AllServed yard ts = (i : ℕ) → i < length ts → is_some (yard (slice_index_or ts i no_trip)) ≡ true
