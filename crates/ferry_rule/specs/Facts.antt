-- What the ferry rule says of trips. Assumes nothing.
use Rattle.std.specs.Prelude.{ℕ, ◌+◌, ◌*◌, cond, Some, None, Option}
use Rattle.walks.specs.Tables.{length_between}
use Rattle.trips.specs.declared.trip.Trip.{Trip}
use Rattle.trips.specs.Gaps.{gap_lies_within}
use Rattle.rules.specs.declared.rule.YardCents.{YardCents}
use Rattle.ferry_rule.specs.declared.terms.Terms.{Terms}
use Rattle.ferry_rule.specs.declared.rule.FerryRule.{FerryRule}

-- the minutes of the way from one berth to another, by the rule's chart
abbrev pub way : FerryRule → ℕ → ℕ → Option ℕ
way rule x y = length_between rule.chart.lengths.lengths x y

-- the link of two trips that lie so many minutes of way apart, if the gap is from least to most minutes longer than the way: the way costs factor cents a minute
abbrev pub link_by : Terms → Trip → Trip → Option ℕ → Option ℕ
link_by terms a b None = None
link_by terms a b (Some d) = cond (gap_lies_within (terms.least + d) (terms.most + d) a b) (Some (d * terms.factor)) None

-- what the way out and the way home cost, if there are both
abbrev pub yard_by : Terms → Option ℕ → Option ℕ → Option YardCents
yard_by terms None home = None
yard_by terms (Some out) None = None
yard_by terms (Some out) (Some home) = Some (record { out = out * terms.factor; home = home * terms.factor })

-- by the distances between berths: a link sails from the first trip's end to the next trip's start, the way out from the yard (berth 0) to the trip's start, and the way home from its end to the yard
abbrev pub ferry_link : FerryRule → Trip → Trip → Option ℕ
ferry_link rule a b = link_by rule.terms a b (way rule a.end b.start)

abbrev pub ferry_yard : FerryRule → Trip → Option YardCents
ferry_yard rule t = yard_by rule.terms (way rule 0 t.start) (way rule t.end 0)
