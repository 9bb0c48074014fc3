-- The rule of a small harbour. Assumes nothing.
use Rattle.std.specs.Prelude.{◌≡◌, ℕ, ◌+◌, ◌≤◌, cond, ◌&&◌, Some, None, Option, ◌==◌, nat_le, nat_lt}
use Rattle.std.proofs.Common.{subst, arith}
use Rattle.std.proofs.lemmas.Bool.{and_parts, leb-true}
use Rattle.std.proofs.lemmas.Option.{cond_some}
use Rattle.rules.specs.declared.rule.YardCents.{YardCents}
use Rattle.trips.specs.declared.trip.Trip.{Trip}

-- 500 cents out and 700 home, from the first ten berths
abbrev pub harbour_yard : Trip → Option YardCents
harbour_yard t = cond (nat_lt t.start 10) (Some (record { out = 500; home = 700 })) None

-- 90 cents from the berth where a vessel lies, once it has turned
abbrev pub harbour_link : ℕ → Trip → Trip → Option ℕ
harbour_link turn a b = cond (a.end == b.start && nat_le (a.arrival + turn) b.departure) (Some 90) None

pub link_forward : (turn : ℕ) (a b : Trip) (n : ℕ) → harbour_link turn a b ≡ Some n → a.arrival ≤ b.departure
link_forward turn a b n e =
    let both = and_parts (a.end == b.start) (nat_le (a.arrival + turn) b.departure) (cond_some _ 90 n e).0 in
    let ready = leb-true (a.arrival + turn) b.departure both.1 in
    omega arith

pub link_bound : (turn : ℕ) (a b : Trip) (n : ℕ) → harbour_link turn a b ≡ Some n → n ≤ 1000000000
link_bound turn a b n e = let is = (cond_some _ 90 n e).1 in omega arith

pub yard_bound : (t : Trip) (y : YardCents) → harbour_yard t ≡ Some y → (y.out ≤ 1000000000) × (y.home ≤ 1000000000)
yard_bound t y e =
    let is : record { out = 500; home = 700 } ≡ y = (cond_some _ _ y e).1 in
    subst (λ z. (z.out ≤ 1000000000) × (z.home ≤ 1000000000)) is (omega arith, omega arith)
