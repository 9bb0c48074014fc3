-- That to withdraw a trip undoes its adding. Assumes nothing.
use Rattle.std.proofs.Common.{◌≡◌, false, List}
use Rattle.trips.specs.declared.trip.Trip.{Trip}
use Rattle.board.specs.Exact.{Undone}
use Rattle.board.specs.Lists.{added, stands}
use Rattle.board.specs.Order.{InOrder}
use Rattle.board.proofs.Adds.{added_stands, added_without}
use Rattle.board.proofs.Reasons.{leaves}

pub undone : (ts : List Trip) (t : Trip) → InOrder ts → stands ts t.number ≡ false → Undone (added ts t) t.number ts
undone ts t ordered new = (leaves (added ts t) t.number (added_stands ts t ordered new), added_without ts t ordered new)
