-- What is printed of a plan. Assumes nothing.
use Rattle.std.specs.Prelude.{ℕ, ◌+◌, List, [], ◌∷◌, ◌++◌, ℤ, codes, decimal, slice_index_or}
use Rattle.std.specs.Fmt.{signed_decimal}
use Rattle.trips.specs.declared.trip.Trip.{Trip}
use Rattle.trips.specs.Default.{no_trip}
use Rattle.duties.specs.Tables.{duties_of}

-- the number of the trip at a position; 0 past the last trip
abbrev pub number_at : List Trip → ℕ → ℕ
number_at ts k = (slice_index_or ts k no_trip).number

-- the numbers of the trips at positions, each after a space
abbrev pub trips_text : List Trip → List ℕ → List ℕ
trips_text ts [] = []
trips_text ts (k ∷ ks) = codes " " ++ (decimal (number_at ts k) ++ trips_text ts ks)

-- the line of a duty of this number, whose trips have the positions ks: duty 1: 5 9
abbrev pub duty_text : List Trip → ℕ → List ℕ → List ℕ
duty_text ts number ks = codes "duty " ++ (decimal number ++ (codes ":" ++ (trips_text ts ks ++ (10 ∷ []))))

-- a line for each duty, from this number on
abbrev pub duties_text : List Trip → ℕ → List (List ℕ) → List ℕ
duties_text ts number [] = []
duties_text ts number (d ∷ ds) = duty_text ts number d ++ duties_text ts (number + 1) ds

-- one place of a row, after a space
abbrev pub place_text : ℤ → List ℕ
place_text z = codes " " ++ signed_decimal z

-- the places of a row
abbrev pub places_text : List ℤ → List ℕ
places_text [] = []
places_text (z ∷ zs) = place_text z ++ places_text zs

-- the last line, with the number of duties and their cost: hulls 1 cost 7700
abbrev pub last_text : ℕ → List ℤ → List ℕ
last_text duties cost = codes "hulls " ++ (decimal duties ++ (codes " cost" ++ (places_text cost ++ (10 ∷ []))))

-- the whole plan: its duties in board order of their first trips, numbered from 1, and the last line
abbrev pub plan_text : List ℕ → List Trip → ℕ → List ℤ → List ℕ
plan_text successors ts duties cost = duties_text ts 1 (duties_of successors) ++ last_text duties cost
