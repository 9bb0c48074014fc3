-- The rule of a quay. Assumes nothing.
use Rattle.std.specs.Prelude.{◌≡◌, ℕ, ◌≤◌, Bool, true, false, cond, Some, None, Option, ◌==◌}
use Rattle.std.proofs.Common.{subst, arith}
use Rattle.rules.specs.declared.rule.YardCents.{YardCents}
use Rattle.trips.specs.declared.trip.Trip.{Trip}

-- nothing to pay, but from berth 9, which is not served
abbrev pub quay_yard : Trip → Option YardCents
quay_yard t = cond (t.start == 9) None (Some (record { out = 0; home = 0 }))

priced : (test : Bool) (x y : YardCents) → cond test None (Some x) ≡ Some y → x ≡ y
priced true x y e = cc
priced false x y e = cc

pub yard_bound : (t : Trip) (y : YardCents) → quay_yard t ≡ Some y → (y.out ≤ 1000000000) × (y.home ≤ 1000000000)
yard_bound t y e = subst (λ z. (z.out ≤ 1000000000) × (z.home ≤ 1000000000)) (priced (t.start == 9) (record { out = 0; home = 0 }) y e) (omega arith, omega arith)

-- what holds of the links of a rule that has none
pub no_link : {P : Type 0} (n : ℕ) → None ≡ Some n → P
no_link n e = cc
