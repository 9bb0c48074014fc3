-- What a crew cap leaves of the rule below it. Assumes nothing.
use Rattle.std.specs.Prelude.{◌≡◌, ℕ, Bool, true, false, cond, pos, Some, None, Option, int_le}
use Rattle.trips.specs.declared.trip.Trip.{Trip}
use Rattle.trips.specs.Gaps.{gap_of}

-- the link of the rule below, where the gap is at most the cap, and else none
abbrev pub capped_link : ℕ → Trip → Trip → Option ℕ → Option ℕ
capped_link cap a b below = cond (int_le (gap_of a b) (pos cap)) below None

kept : (within : Bool) (n : ℕ) (below : Option ℕ) → cond within below None ≡ Some n → below ≡ Some n
kept true n below e = e
kept false n below e = cc

-- a cap only takes links away
pub capped_from : (cap : ℕ) (a b : Trip) (n : ℕ) (below : Option ℕ) → capped_link cap a b below ≡ Some n → below ≡ Some n
capped_from cap a b n below e = kept (int_le (gap_of a b) (pos cap)) n below e
