-- The lists of trips that calls lead to. Assumes nothing.
use Rattle.std.specs.Prelude.{ℕ, Bool, not, List, ◌∷◌, ◌++◌, filter, ◌==◌}
use Rattle.std.specs.List.{list_any}
use Rattle.trips.specs.declared.trip.Trip.{Trip}
use Rattle.board.specs.Order.{before}

-- whether a trip with the number is among the trips
abbrev pub stands : List Trip → ℕ → Bool
stands ts n = list_any (λ t. t.number == n) ts

-- the trips with one more at its place: after all that stand before it, before all that it stands before
abbrev pub added : List Trip → Trip → List Trip
added ts t = filter (λ x. before x t) ts ++ (t ∷ filter (λ x. before t x) ts)

-- the trips that have another number, in the order that they had
abbrev pub without : List Trip → ℕ → List Trip
without ts n = filter (λ x. not (x.number == n)) ts
