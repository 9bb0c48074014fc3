-- What holds of each trip and all that come after it. Assumes nothing.
use Rattle.std.proofs.Common.{ℕ, zero, suc, ◌<◌, Bool, true, false, cond, List, [], ◌∷◌, ◌++◌, length, get_or, filter, arith}
use Rattle.std.specs.List.{AllByRecursion as All}
use Rattle.std.proofs.ByRecursion.{All-get_or, All-from_get_or, all_kept_by}
use Rattle.trips.specs.declared.trip.Trip.{Trip}
use Rattle.trips.specs.Default.{no_trip}

-- by the trips
abbrev pub Pairs : (Trip → Trip → Type 0) → List Trip → Type 0
Pairs R [] = Unit {0}
Pairs R (x ∷ xs) = All (R x) xs × Pairs R xs

-- and by their places
abbrev pub ByPlaces : (Trip → Trip → Type 0) → List Trip → Type 0
ByPlaces R xs = (i j : ℕ) → (i < j) × (j < length xs) → R (get_or xs i no_trip) (get_or xs j no_trip)

-- from the places to the trips
pub pairs_from : (R : Trip → Trip → Type 0) (xs : List Trip) → ByPlaces R xs → Pairs R xs
pairs_from R [] h = tt
pairs_from R (x ∷ xs) h = (All-from_get_or (R x) xs no_trip (λ k lt. h 0 (suc k) (omega arith, omega arith)), pairs_from R xs (λ i j b. let l = b.0 in let m = b.1 in h (suc i) (suc j) (omega arith, omega arith)))

-- and back
pub places_from : (R : Trip → Trip → Type 0) (xs : List Trip) → Pairs R xs → ByPlaces R xs
places_from R [] p i j (lt, within) = absurd (omega arith)
places_from R (x ∷ xs) p zero zero (lt, within) = absurd (omega arith)
places_from R (x ∷ xs) p zero (suc j) (lt, within) = All-get_or (R x) xs j no_trip (omega arith) p.0
places_from R (x ∷ xs) p (suc i) zero (lt, within) = absurd (omega arith)
places_from R (x ∷ xs) p (suc i) (suc j) (lt, within) = places_from R xs p.1 i j (omega arith, omega arith)

-- with one more trip in the middle
pub all_insert : (P : Trip → Type 0) (t : Trip) (xs ys : List Trip) → All P (xs ++ ys) → P t → All P (xs ++ (t ∷ ys))
all_insert P t [] ys h new = (new, h)
all_insert P t (x ∷ xs) ys (h, hs) new = (h, all_insert P t xs ys hs new)

pub pairs_insert : (R : Trip → Trip → Type 0) (t : Trip) (xs ys : List Trip) → Pairs R (xs ++ ys) → All (λ x. R x t) xs → All (R t) ys → Pairs R (xs ++ (t ∷ ys))
pairs_insert R t [] ys p front back = (back, p)
pairs_insert R t (x ∷ xs) ys (h, p) (f, front) back = (all_insert (R x) t xs ys h f, pairs_insert R t xs ys p front back)

-- of what a test keeps
pub pairs_kept : (R : Trip → Trip → Type 0) (p : Trip → Bool) (xs : List Trip) → Pairs R xs → Pairs R (filter p xs)
pairs_kept R p [] h = tt
pairs_kept R p (x ∷ xs) (h, hs) =
    elim (p x) as (λ b. Pairs R (cond b (x ∷ filter p xs) (filter p xs))) [
      | true ↦ (all_kept_by p (R x) xs h, pairs_kept R p xs hs)
      | false ↦ pairs_kept R p xs hs
    ]
