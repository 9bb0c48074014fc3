-- What is known where no reason to refuse holds. Assumes nothing.
use Rattle.std.proofs.Common.{◌≡◌, ℕ, ◌<◌, Bool, true, false, cond, not, ◌&&◌, leb, List, length, is_some, Some, None, Option, refl}
use Rattle.std.proofs.lemmas.Bool.{and_from, cond-false, leb-false, not-false, not_from_true}
use Rattle.faults.specs.declared.refusal.Refusal.{Refusal}
use Rattle.faults.specs.declared.refusal.Refusal.TheVariants.{TripOutOfRange, NotBeforeArrival, NumberStands, NotServed, BoardFull, NumberDoesNotStand}
use Rattle.rules.specs.declared.rule.YardCents.{YardCents}
use Rattle.trips.specs.declared.trip.Trip.{Trip}
use Rattle.board.specs.Ranges.{in_range, departs_first}
use Rattle.board.specs.Lists.{stands}
use Rattle.board.specs.Refusals.{add_refusal, withdraw_refusal}

passed : (b : Bool) (r : Refusal) (rest : Option Refusal) → cond b (Some r) rest ≡ None → (b ≡ false) × (rest ≡ None)
passed true r rest e = cc
passed false r rest e = (refl, e)

-- of a trip that is not refused
pub record Welcome (yard : Trip → Option YardCents) (ts : List Trip) (t : Trip) : Type 0 where
  pub sound : (in_range t && departs_first t) ≡ true
  pub new : stands ts t.number ≡ false
  pub served : is_some (yard t) ≡ true
  pub room : length ts < 200

pub welcome : (yard : Trip → Option YardCents) (ts : List Trip) (t : Trip) → add_refusal yard ts t ≡ None → Welcome yard ts t
welcome yard ts t e =
    let a = passed (not (in_range t)) TripOutOfRange _ e in
    let b = passed (not (departs_first t)) NotBeforeArrival _ a.1 in
    let c = passed (stands ts t.number) NumberStands _ b.1 in
    let d = passed (not (is_some (yard t))) NotServed _ c.1 in
    let f = passed (leb 200 (length ts)) BoardFull _ d.1 in
    record {
      sound = and_from (in_range t) (departs_first t) (not-false (in_range t) a.0) (not-false (departs_first t) b.0);
      new = c.0;
      served = not-false (is_some (yard t)) d.0;
      room = leb-false 200 (length ts) f.0;
    }

-- a number that stands can be withdrawn
pub leaves : (ts : List Trip) (n : ℕ) → stands ts n ≡ true → withdraw_refusal ts n ≡ None
leaves ts n e = cond-false (not (stands ts n)) (Some NumberDoesNotStand) None (not_from_true (stands ts n) e)
