-- What holds of the facts of every rule. Assumes nothing.
use Rattle.std.specs.Prelude.{◌≡◌, ℕ, ◌≤◌, Some, Option}
use Rattle.trips.specs.declared.trip.Trip.{Trip}
use Rattle.rules.specs.declared.rule.YardCents.{YardCents}

-- a link only leads to a trip that departs no earlier than the first arrives
abbrev pub Forward : {S : Type 0} → (S → Trip → Trip → Option ℕ) → Type 0
Forward {S = S} link = (s : S) (a b : Trip) (n : ℕ) → link s a b ≡ Some n → a.arrival ≤ b.departure

-- no yard leg costs more than 1,000,000,000 cents
abbrev pub YardBound : {S : Type 0} → (S → Trip → Option YardCents) → Type 0
YardBound {S = S} yard = (s : S) (t : Trip) (y : YardCents) → yard s t ≡ Some y → (y.out ≤ 1000000000) × (y.home ≤ 1000000000)

-- no link costs more than 1,000,000,000 cents
abbrev pub LinkBound : {S : Type 0} → (S → Trip → Trip → Option ℕ) → Type 0
LinkBound {S = S} link = (s : S) (a b : Trip) (n : ℕ) → link s a b ≡ Some n → n ≤ 1000000000
