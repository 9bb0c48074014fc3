-- What a plan goes by, and the day that it plans. Assumes nothing.
use Rattle.std.specs.Prelude.{ℕ, cond, List, length, ℤ, None, Option, nat_lt, slice_index_or}
use Rattle.std.specs.Option.{option_map, unwrap_or}
use Rattle.trips.specs.declared.trip.Trip.{Trip}
use Rattle.trips.specs.Default.{no_trip}
use Rattle.rules.specs.declared.rule.YardCents.{YardCents}
use Rattle.duties.specs.Duties.{Net}

-- The facts of a rule, the values of a tariff, in rows of so many places, and the fee.
pub record Terms : Type 0 where
  pub yard : Trip → Option YardCents
  pub link : Trip → Trip → Option ℕ
  pub places : ℕ
  pub opens : ℕ → ℕ → List ℤ
  pub links : ℕ → List ℤ
  pub homes : ℕ → List ℤ
  pub fee : ℕ

-- what is read of a trip that is not served
abbrev pub no_yard : YardCents
no_yard = record { out = 0; home = 0 }

-- the yard cents of the trip at a position
abbrev pub yard_at : (Trip → Option YardCents) → List Trip → ℕ → YardCents
yard_at yard ts i = cond (nat_lt i (length ts)) (unwrap_or (yard (slice_index_or ts i no_trip)) no_yard) no_yard

-- the cents of the link between the trips at two positions; past the last trip there is none
abbrev pub link_at : (Trip → Trip → Option ℕ) → List Trip → ℕ → ℕ → Option ℕ
link_at link ts i j = cond (nat_lt i (length ts)) (cond (nat_lt j (length ts)) (link (slice_index_or ts i no_trip) (slice_index_or ts j no_trip)) None) None

-- A day of trips in board order, by these terms: what it costs to open a duty with a trip, to run one trip directly after another, and to come home.
abbrev pub day_of : Terms → List Trip → Net (List ℤ)
day_of terms ts =
    record {
      trips = length ts;
      opens = λ j. terms.opens terms.fee (yard_at terms.yard ts j).out;
      link = λ i j. option_map terms.links (link_at terms.link ts i j);
      homes = λ i. terms.homes (yard_at terms.yard ts i).home;
    }
