-- What a look along the trips tells. Assumes nothing.
use Rattle.std.proofs.Common.{◌≡◌, ℕ, ◌<◌, Bool, true, false, eqb, List, [], ◌∷◌, length, get_or, cond, Some, None, Option, sym, refl, arith, MatchOption}
use Rattle.std.specs.List.{position, position_or_len, AllByRecursion as All}
use Rattle.std.proofs.lemmas.List.Folds.{list_any_at, list_any_none}
use Rattle.std.proofs.lemmas.List.Quantifiers.{position-Some}
use Rattle.std.proofs.lemmas.List.Sums.{fails_before_first}
use Rattle.std.proofs.lemmas.Bool.{eq-eqb, eqb-true, ltb-false, or_parts}
use Rattle.trips.specs.declared.trip.Trip.{Trip}
use Rattle.trips.specs.Default.{no_trip}
use Rattle.board.specs.Lists.{stands}

-- a number that is found stands
pub stands_at : (ts : List Trip) (n i : ℕ) → i < length ts → (get_or ts i no_trip).number ≡ n → stands ts n ≡ true
stands_at ts n i lt is = list_any_at (λ t. eqb t.number n) ts i no_trip lt (eq-eqb _ _ is)

-- where the number does not stand, each trip has another
pub others : (ts : List Trip) (n : ℕ) → stands ts n ≡ false → All (λ x. eqb x.number n ≡ false) ts
others [] n e = tt
others (t ∷ ts) n e = let p = or_parts (eqb t.number n) (stands ts n) e in (p.0, others ts n p.1)

not_within : (b : Bool) (i : ℕ) → cond b (Some i) None ≡ None → b ≡ false
not_within true i e = cc
not_within false i e = refl

-- the place of the first trip with the number, or that the number does not stand
pub found : (ts : List Trip) (n : ℕ) (o : Option ℕ) → o ≡ position (λ t. eqb t.number n) ts → MatchOption o (stands ts n ≡ false) (λ i. (i < length ts) × ((get_or ts i no_trip).number ≡ n))
found ts n None e =
    let past = ltb-false _ _ (not_within _ (position_or_len (λ t. eqb t.number n) ts) (sym e)) in
    list_any_none (λ t. eqb t.number n) ts (λ k d lt. fails_before_first (λ t. eqb t.number n) ts k d (omega arith))
found ts n (Some i) e = let p = position-Some (λ t. eqb t.number n) ts i no_trip (sym e) in (p.0, eqb-true _ _ p.1)
