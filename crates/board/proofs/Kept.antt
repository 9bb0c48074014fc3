-- What a test keeps of the trips. Assumes nothing.
use Rattle.std.proofs.Common.{◌≡◌, ℕ, zero, suc, ◌<◌, Bool, true, false, not, eqb, List, [], ◌∷◌, length, get_or, filter, sym, refl, ap, ◌∙◌, subst, arith}
use Rattle.std.specs.List.{remove, AllByRecursion as All}
use Rattle.std.proofs.ByRecursion.{All-from_get_or, All-get_or, all_kept_by, All-weaker}
use Rattle.std.proofs.lemmas.Bool.{cond-true, cond-false, eq-eqb, not_from_true, not_from_false}
use Rattle.std.proofs.lemmas.Bool.Decides.{nat_tests}
use Rattle.trips.specs.declared.trip.Trip.{Trip}
use Rattle.trips.specs.Default.{no_trip}
use Rattle.board.specs.Lists.{without}
use Rattle.board.proofs.Pairs.{Pairs}

pub kept_all : (p : Trip → Bool) (xs : List Trip) → All (λ x. p x ≡ true) xs → filter p xs ≡ xs
kept_all p [] h = refl
kept_all p (x ∷ xs) (h, hs) = cond-true (p x) (x ∷ filter p xs) (filter p xs) h ∙ ap (λ l. x ∷ l) (kept_all p xs hs)

pub kept_none : (p : Trip → Bool) (xs : List Trip) → All (λ x. p x ≡ false) xs → filter p xs ≡ []
kept_none p [] h = refl
kept_none p (x ∷ xs) (h, hs) = cond-false (p x) (x ∷ filter p xs) (filter p xs) h ∙ kept_none p xs hs

-- without a number that no trip has
pub without_none : (xs : List Trip) (n : ℕ) → All (λ x. eqb x.number n ≡ false) xs → without xs n ≡ xs
without_none xs n h = kept_all (λ x. not (eqb x.number n)) xs (All-weaker (λ x. eqb x.number n ≡ false) (λ x. not (eqb x.number n) ≡ true) (λ x e. not_from_false (eqb x.number n) e) xs h)

-- the trip at a place taken out is the list without its number
pub removed_without : (xs : List Trip) (n i : ℕ) → i < length xs → (get_or xs i no_trip).number ≡ n → Pairs (λ a b. eqb a.number b.number ≡ false) xs → remove xs i ≡ without xs n
removed_without [] n i lt is p = absurd (omega arith)
removed_without (x ∷ xs) n zero lt is (h, p) =
    let gone : without (x ∷ xs) n ≡ without xs n = cond-false (not (eqb x.number n)) (x ∷ without xs n) (without xs n) (not_from_true (eqb x.number n) (eq-eqb x.number n is)) in
    sym (gone ∙ without_none xs n (All-weaker (λ y. eqb x.number y.number ≡ false) (λ y. eqb y.number n ≡ false) (λ y e. grind (arith, nat_tests)) xs h))
removed_without (x ∷ xs) n (suc i) lt is (h, p) =
    let far : eqb x.number (get_or xs i no_trip).number ≡ false = All-get_or (λ y. eqb x.number y.number ≡ false) xs i no_trip (omega arith) h in
    let stays : without (x ∷ xs) n ≡ x ∷ without xs n = cond-true (not (eqb x.number n)) (x ∷ without xs n) (without xs n) (not_from_false (eqb x.number n) (subst (λ m. eqb x.number m ≡ false) is far)) in
    ap (λ l. x ∷ l) (removed_without xs n i (omega arith) is p) ∙ sym stays

-- what holds of each trip holds of each that is left
pub without_each : (xs : List Trip) (n : ℕ) (P : Trip → Type 0) → ((i : ℕ) → i < length xs → P (get_or xs i no_trip)) → (i : ℕ) → i < length (without xs n) → P (get_or (without xs n) i no_trip)
without_each xs n P each i lt = All-get_or P (without xs n) i no_trip lt (all_kept_by (λ x. not (eqb x.number n)) P xs (All-from_get_or P xs no_trip each))
