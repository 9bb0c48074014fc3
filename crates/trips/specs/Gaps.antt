-- The time between two trips. Assumes nothing.
use Rattle.std.specs.Prelude.{◌≡◌, ℕ, ◌≤◌, Bool, true, ◌&&◌, T, ℤ, pos, ◌-ℤ◌, ◌≤ℤ◌, int_le}
use Rattle.std.proofs.Common.{sym, subst, arith}
use Rattle.std.proofs.lemmas.Int.{ints}
use Rattle.std.specs.Int.Signed.{le_z_yes}
use Rattle.std.proofs.lemmas.Bool.{and_parts}
use Rattle.trips.specs.declared.trip.Trip.{Trip}

-- the minutes from the first trip's arrival to the next trip's departure, below zero where that is earlier
abbrev pub gap_of : Trip → Trip → ℤ
gap_of first next = pos next.departure -ℤ pos first.arrival

-- whether the gap is from lower to upper minutes
abbrev pub gap_lies_within : ℕ → ℕ → Trip → Trip → Bool
gap_lies_within lower upper first next = int_le (pos lower) (gap_of first next) && int_le (gap_of first next) (pos upper)

-- a gap of lower minutes or more is not below zero: the next trip departs no earlier than the first arrives
pub within_forward : (lower upper : ℕ) (first next : Trip) → gap_lies_within lower upper first next ≡ true → first.arrival ≤ next.departure
within_forward lower upper first next e =
    let p = and_parts (int_le (pos lower) (gap_of first next)) (int_le (gap_of first next) (pos upper)) e in
    let h : pos lower ≤ℤ (pos next.departure -ℤ pos first.arrival) = le_z_yes (subst T (sym p.0) tt) in
    omega (arith, ints)
