-- What the ferry rule says of trips, by the walks along the edges of its chart. Assumes nothing.
use Rattle.std.specs.Prelude.{◌≡◌, ℕ, ◌+◌, ◌*◌, pos, ◌≤ℤ◌, Some, None, Option}
use Rattle.walks.specs.Walks.{Least}
use Rattle.trips.specs.declared.trip.Trip.{Trip}
use Rattle.trips.specs.Gaps.{gap_of}
use Rattle.rules.specs.declared.rule.YardCents.{YardCents}
use Rattle.ferry_rule.specs.declared.terms.Terms.{Terms}
use Rattle.ferry_rule.specs.declared.rule.FerryRule.{FerryRule}

-- a hull that sails d minutes between two trips lies from least to most minutes beside that
pub record Lies (terms : Terms) (d : ℕ) (a b : Trip) : Type 0 where
  pub long : pos (terms.least + d) ≤ℤ gap_of a b
  pub short : gap_of a b ≤ℤ pos (terms.most + d)

-- over the edges of a rule's chart, and its terms
module _ (rule : FerryRule) where
  -- d minutes are the distance from berth x to berth y
  abbrev pub Distance : ℕ → ℕ → ℕ → Type 0
  Distance x y d = ∥ Least rule.chart.edges.list.items x y (Some d) ∥₁

  -- the link from a to b: it is there exactly where there is a way and the gap fits it, and costs the way's minutes times the factor
  abbrev pub LinkSailed : Trip → Trip → Option ℕ → Type 0
  LinkSailed a b (Some cents) = (d : ℕ) × Distance a.end b.start d × Lies rule.terms d a b × (cents ≡ d * rule.terms.factor)
  LinkSailed a b None = (d : ℕ) → Distance a.end b.start d → Lies rule.terms d a b → ⊥

  -- the ways from the yard, berth 0, and home: they are there exactly where there are both
  abbrev pub YardSailed : Trip → Option YardCents → Type 0
  YardSailed t (Some y) = (out : ℕ) × (home : ℕ) × Distance 0 t.start out × Distance t.end 0 home × (y.out ≡ out * rule.terms.factor) × (y.home ≡ home * rule.terms.factor)
  YardSailed t None = (out home : ℕ) → Distance 0 t.start out → Distance t.end 0 home → ⊥
