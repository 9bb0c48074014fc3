-- The place of a trip in board order. Assumes nothing.
use Rattle.std.proofs.Common.{◌≡◌, ℕ, suc, ◌+◌, ◌<◌, true, false, not, eqb, List, [], ◌∷◌, ◌++◌, length, get_or, take, drop, filter, sym, refl, ap, ◌∙◌, subst, ⊎_elim, one-add, arith}
use Rattle.std.specs.List.Sorted.{IsPartitionedBy}
use Rattle.std.proofs.Math.Nat.{eq-or-lt_of_le}
use Rattle.std.specs.List.{insert, prefix_len, AllByRecursion as All}
use Rattle.std.proofs.ByRecursion.{All-get_or, All-from_get_or, all_kept_by, All-weaker, kept_by_passes}
use Rattle.std.proofs.lemmas.List.{get_or_default, take-append-drop}
use Rattle.std.proofs.lemmas.Bool.{cases_Bool, cond-true, cond-false, eq-eqb, not_from_true, not_from_false, or_left, or_right}
use Rattle.std.proofs.lemmas.Bool.Decides.{nat_tests}
use Rattle.trips.specs.declared.trip.Trip.{Trip}
use Rattle.trips.specs.Default.{no_trip}
use Rattle.board.specs.Order.{before, InOrder, NumbersDiffer}
use Rattle.board.specs.Lists.{stands, added, without}
use Rattle.board.proofs.Places.{others}
use Rattle.board.proofs.Pairs.{Pairs, pairs_from, places_from, all_insert, pairs_insert}
use Rattle.board.proofs.Kept.{kept_all, kept_none, without_none}

-- one trip stands before another
abbrev pub Ahead : Trip → Trip → Type 0
Ahead a b = before a b ≡ true

-- two trips have two numbers
abbrev pub Differ : Trip → Trip → Type 0
Differ a b = eqb a.number b.number ≡ false

pub one_way : (a b : Trip) → before a b ≡ true → before b a ≡ false
one_way a b h = grind (arith, nat_tests)

turned : (a b : Trip) → before a b ≡ false → eqb a.number b.number ≡ false → before b a ≡ true
turned a b h d = grind (arith, nat_tests)

onward : (a b c : Trip) → before a b ≡ true → before b c ≡ true → before a c ≡ true
onward a b c h k = grind (arith, nat_tests)

-- in board order no trip that stands before t comes after one that does not
pub parted : (xs : List Trip) (t : Trip) → InOrder xs → IsPartitionedBy (λ x. before x t) xs
parted xs t ordered i j d le lt h =
    ⊎_elim
    (λ e. subst (λ k. before (get_or xs k d) t ≡ true) (sym e) h)
    (λ l.
    let step : before (get_or xs i d) (get_or xs j d) ≡ true = rw (get_or_default xs i d no_trip (omega arith), get_or_default xs j d no_trip lt) (ordered i j (l, lt)) in
    onward (get_or xs i d) (get_or xs j d) t step h)
    (eq-or-lt_of_le le)

-- the trips before t are the front of the list, and those after it are the rest
record Split (xs : List Trip) (t : Trip) : Type 0 where
  pub front : take (prefix_len (λ x. before x t) xs) xs ≡ filter (λ x. before x t) xs
  pub back : drop (prefix_len (λ x. before x t) xs) xs ≡ filter (λ x. before t x) xs

split : (xs : List Trip) (t : Trip) → Pairs Ahead xs → All (λ x. eqb x.number t.number ≡ false) xs → Split xs t
split [] t p o = record { front = refl; back = refl }
split (x ∷ xs) t (h, p) (o, os) =
    let rest = split xs t p os in
    let n = prefix_len (λ y. before y t) xs in
    ⊎_elim
    (λ ahead.
    let long : prefix_len (λ y. before y t) (x ∷ xs) ≡ suc n = cond-true (before x t) (1 + n) 0 ahead ∙ one-add n in
    record {
      front = ap (λ k. take k (x ∷ xs)) long ∙ ap (λ l. x ∷ l) rest.front ∙ sym (cond-true (before x t) (x ∷ filter (λ y. before y t) xs) (filter (λ y. before y t) xs) ahead);
      back = ap (λ k. drop k (x ∷ xs)) long ∙ rest.back ∙ sym (cond-false (before t x) (x ∷ filter (λ y. before t y) xs) (filter (λ y. before t y) xs) (one_way x t ahead));
    })
    (λ behind.
    let none : prefix_len (λ y. before y t) (x ∷ xs) ≡ 0 = cond-false (before x t) (1 + n) 0 behind in
    let here : before t x ≡ true = turned x t behind o in
    let after : All (λ y. before t y ≡ true) xs = All-weaker (Ahead x) (λ y. before t y ≡ true) (λ y e. onward t x y here e) xs h in
    record {
      front = ap (λ k. take k (x ∷ xs)) none ∙ sym (kept_none (λ y. before y t) (x ∷ xs) (behind, All-weaker (λ y. before t y ≡ true) (λ y. before y t ≡ false) (λ y e. one_way t y e) xs after));
      back = ap (λ k. drop k (x ∷ xs)) none ∙ sym (kept_all (λ y. before t y) (x ∷ xs) (here, after));
    })
    (cases_Bool (before x t))

joined_stands : (t : Trip) (xs ys : List Trip) → stands (xs ++ (t ∷ ys)) t.number ≡ true
joined_stands t [] ys = or_left (eqb t.number t.number) (stands ys t.number) (eq-eqb t.number t.number refl)
joined_stands t (x ∷ xs) ys = or_right (eqb x.number t.number) (stands (xs ++ (t ∷ ys)) t.number) (joined_stands t xs ys)

joined_without : (t : Trip) (xs ys : List Trip) → All (λ x. Differ x t) (xs ++ ys) → without (xs ++ (t ∷ ys)) t.number ≡ xs ++ ys
joined_without t [] ys o = cond-false (not (eqb t.number t.number)) (t ∷ without ys t.number) (without ys t.number) (not_from_true (eqb t.number t.number) (eq-eqb t.number t.number refl)) ∙ without_none ys t.number o
joined_without t (x ∷ xs) ys (o, os) = cond-true (not (eqb x.number t.number)) (x ∷ without (xs ++ (t ∷ ys)) t.number) (without (xs ++ (t ∷ ys)) t.number) (not_from_false (eqb x.number t.number) o) ∙ ap (λ l. x ∷ l) (joined_without t xs ys os)

module _ (xs : List Trip) (t : Trip) (ordered : InOrder xs) (new : stands xs t.number ≡ false) where
  parts : Split xs t
  parts = split xs t (pairs_from Ahead xs ordered) (others xs t.number new)

  -- put in after the front, the trip is at its place
  pub inserted_added : insert xs (prefix_len (λ x. before x t) xs) t ≡ added xs t
  inserted_added = ap (λ l. l ++ (t ∷ drop (prefix_len (λ x. before x t) xs) xs)) parts.front ∙ ap (λ l. filter (λ x. before x t) xs ++ (t ∷ l)) parts.back

  -- the two parts make the whole
  pub whole : filter (λ x. before x t) xs ++ filter (λ x. before t x) xs ≡ xs
  whole = sym (ap (λ l. l ++ drop (prefix_len (λ x. before x t) xs) xs) parts.front ∙ ap (λ l. filter (λ x. before x t) xs ++ l) parts.back) ∙ take-append-drop (prefix_len (λ x. before x t) xs) xs

  pub added_in_order : InOrder (added xs t)
  added_in_order =
      places_from Ahead (added xs t)
      (pairs_insert Ahead t (filter (λ x. before x t) xs) (filter (λ x. before t x) xs) (subst (Pairs Ahead) (sym whole) (pairs_from Ahead xs ordered)) (kept_by_passes (λ x. before x t) xs) (kept_by_passes (λ x. before t x) xs))

  pub added_numbers_differ : NumbersDiffer xs → NumbersDiffer (added xs t)
  added_numbers_differ differ =
      let other = others xs t.number new in
      places_from Differ (added xs t)
      (pairs_insert Differ t (filter (λ x. before x t) xs) (filter (λ x. before t x) xs) (subst (Pairs Differ) (sym whole) (pairs_from Differ xs differ)) (all_kept_by (λ x. before x t) (λ x. Differ x t) xs other)
      (all_kept_by (λ x. before t x) (Differ t) xs (All-weaker (λ x. Differ x t) (Differ t) (λ x e. grind (arith, nat_tests)) xs other)))

  -- what holds of each trip and of t holds of each after t is added
  pub added_each : (P : Trip → Type 0) → ((i : ℕ) → i < length xs → P (get_or xs i no_trip)) → P t → (i : ℕ) → i < length (added xs t) → P (get_or (added xs t) i no_trip)
  added_each P each one i lt =
      All-get_or P (added xs t) i no_trip lt
      (all_insert P t (filter (λ x. before x t) xs) (filter (λ x. before t x) xs) (subst (All P) (sym whole) (All-from_get_or P xs no_trip each)) one)

  -- and t is withdrawn again
  pub added_stands : stands (added xs t) t.number ≡ true
  added_stands = joined_stands t (filter (λ x. before x t) xs) (filter (λ x. before t x) xs)

  pub added_without : without (added xs t) t.number ≡ xs
  added_without =
      let front = filter (λ x. before x t) xs in
      let back = filter (λ x. before t x) xs in
      joined_without t front back (subst (All (λ x. Differ x t)) (sym whole) (others xs t.number new)) ∙ whole
