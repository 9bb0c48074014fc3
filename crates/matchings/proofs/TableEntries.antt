-- Tables of values, each with a row of one length and within the bound: their entries by weights and by places. Assumes nothing.
use Rattle.std.proofs.Common.{◌≡◌, ℕ, zero, suc, ◌<◌, List, [], ◌∷◌, length, get_or, set, ℤ, pos, ◌+ℤ◌, ◌-ℤ◌, sym, refl, ap, ◌∙◌, arith}
use borrow.Author.Differences.{ints}
use lib.Signed.{lt_z}
use Rattle.std.proofs.lemmas.List.{length-map, get_or-map, map-set}
use Rattle.rows.proofs.Bounds.{small_weaker, small_from_kept}
use Rattle.rows.proofs.Weights.{weight_order}
use Rattle.rows.specs.Places.{most, kept, Near, Small, below, weight, wide}
use Rattle.matchings.specs.Tables.{at_z}
use Rattle.matchings.specs.Rowed.{place, weights, places, PlacesNear, TableNear}
use Rattle.matchings.proofs.RowPlaces.{weight_same, places_sum, places_sum3}

module _ {V : Type 0} (row : V → List ℤ) where
  pub weights_length : (xs : List V) → length (weights row xs) ≡ length xs
  unfolding weights
  weights_length xs = length-map xs _

  pub weights_set : (xs : List V) (i : ℕ) (v : V) → weights row (set xs i v) ≡ set (weights row xs) i (weight (row v))
  unfolding weights
  weights_set xs i v = map-set (λ v. weight (row v)) xs i v

  pub weights_at : (xs : List V) (i : ℕ) (x : V) → i < length xs → x ≡ get_or xs i x → at_z (weights row xs) i ≡ weight (row x)
  unfolding weights
  weights_at xs i x l e = get_or-map (λ v. weight (row v)) xs i x (pos 0) l ∙ ap (λ v. weight (row v)) (sym e)

  pub places_at : (p : ℕ) (xs : List V) (i : ℕ) (x : V) → i < length xs → x ≡ get_or xs i x → at_z (places row p xs) i ≡ place p (row x)
  unfolding places
  places_at p xs i x l e = get_or-map (λ v. place p (row v)) xs i x (pos 0) l ∙ ap (λ v. place p (row v)) (sym e)

  -- the value at a place
  value : (xs : List V) (i : ℕ) → i < length xs → V
  value [] i l = absurd (omega arith)
  value (x ∷ xs) zero l = x
  value (x ∷ xs) (suc i) l = value xs i (omega arith)

  weights_value : (xs : List V) (i : ℕ) (l : i < length xs) → at_z (weights row xs) i ≡ weight (row (value xs i l))
  unfolding weights value
  weights_value [] i l = absurd (omega arith)
  weights_value (x ∷ xs) zero l = refl
  weights_value (x ∷ xs) (suc i) l = weights_value xs i (omega arith)

  places_value : (p : ℕ) (xs : List V) (i : ℕ) (l : i < length xs) → at_z (places row p xs) i ≡ place p (row (value xs i l))
  unfolding places value
  places_value p [] i l = absurd (omega arith)
  places_value p (x ∷ xs) zero l = refl
  places_value p (x ∷ xs) (suc i) l = places_value p xs i (omega arith)

module _ {V : Type 0} (row : V → List ℤ) (count : ℕ) (long : (v : V) → length (row v) ≡ count) (near : (v : V) → kept (row v) ≡ row v) where
  pub value_small : (v : V) → Small most (row v)
  value_small v = small_from_kept (row v) (near v)

  -- values stand as the weights of their rows
  pub below_weight : (v w : V) → below (row v) (row w) ≡ lt_z (weight (row v)) (weight (row w))
  below_weight v w =
      weight_order (row v) (row w) (long v ∙ sym (long w)) (small_weaker most wide (omega arith) (row v) (value_small v)) (small_weaker most wide (omega arith) (row w) (value_small w))

  row_same : (v w : V) → weight (row v) ≡ weight (row w) → row v ≡ row w
  row_same v w e = weight_same (row v) (row w) (long v ∙ sym (long w)) (small_weaker most wide (omega arith) (row v) (value_small v)) (small_weaker most wide (omega arith) (row w) (value_small w)) e

  pub value_sum : (r v w : V) → weight (row r) ≡ (weight (row v) +ℤ weight (row w)) → (p : ℕ) → place p (row r) ≡ (place p (row v) +ℤ place p (row w))
  value_sum r v w e p = places_sum (row r) (row v) (row w) (long r ∙ sym (long v)) (long v ∙ sym (long w)) (value_small r) (value_small v) (value_small w) e p

  -- entries of tables of which one weighs what others weigh
  pub entry_same : (xs ys : List V) (i j : ℕ) → i < length xs → j < length ys → at_z (weights row xs) i ≡ at_z (weights row ys) j → (p : ℕ) → at_z (places row p xs) i ≡ at_z (places row p ys) j
  entry_same xs ys i j li lj e p =
      let s = row_same (value row xs i li) (value row ys j lj) (sym (weights_value row xs i li) ∙ e ∙ weights_value row ys j lj) in
      places_value row p xs i li ∙ ap (place p) s ∙ sym (places_value row p ys j lj)

  pub entry_plus : (xs ys : List V) (i j : ℕ) (d : V) → i < length xs → j < length ys → at_z (weights row xs) i ≡ (at_z (weights row ys) j +ℤ weight (row d)) → (p : ℕ) → at_z (places row p xs) i ≡ (at_z (places row p ys) j +ℤ place p (row d))
  entry_plus xs ys i j d li lj e p =
      let a = weights_value row xs i li in
      let b = weights_value row ys j lj in
      let s = value_sum (value row xs i li) (value row ys j lj) d (omega (arith, ints)) p in
      let a' = places_value row p xs i li in
      let b' = places_value row p ys j lj in
      omega (arith, ints)

  pub entry_minus : (xs ys : List V) (i j : ℕ) (d : V) → i < length xs → j < length ys → at_z (weights row xs) i ≡ (at_z (weights row ys) j -ℤ weight (row d)) → (p : ℕ) → at_z (places row p xs) i ≡ (at_z (places row p ys) j -ℤ place p (row d))
  entry_minus xs ys i j d li lj e p =
      let a = weights_value row xs i li in
      let b = weights_value row ys j lj in
      let s = value_sum (value row ys j lj) (value row xs i li) d (omega (arith, ints)) p in
      let a' = places_value row p xs i li in
      let b' = places_value row p ys j lj in
      omega (arith, ints)

  -- a row that weighs as much as entries of two or three tables
  pub entry_two : (r : List ℤ) → length r ≡ count → Small most r → (xs ys : List V) (i j : ℕ) → i < length xs → j < length ys → weight r ≡ (at_z (weights row xs) i +ℤ at_z (weights row ys) j) → (p : ℕ) → place p r ≡ (at_z (places row p xs) i +ℤ at_z (places row p ys) j)
  entry_two r lr sr xs ys i j li lj e p =
      let v = value row xs i li in
      let w = value row ys j lj in
      let a = weights_value row xs i li in
      let b = weights_value row ys j lj in
      let s = places_sum r (row v) (row w) (lr ∙ sym (long v)) (long v ∙ sym (long w)) sr (value_small v) (value_small w) (omega (arith, ints)) p in
      let a' = places_value row p xs i li in
      let b' = places_value row p ys j lj in
      omega (arith, ints)

  pub entry_three : (r : List ℤ) → length r ≡ count → Small most r → (xs ys zs : List V) (i j k : ℕ) → i < length xs → j < length ys → k < length zs → weight r ≡ (at_z (weights row xs) i +ℤ (at_z (weights row ys) j +ℤ at_z (weights row zs) k)) → (p : ℕ) → place p r ≡ (at_z (places row p xs) i +ℤ (at_z (places row p ys) j +ℤ at_z (places row p zs) k))
  entry_three r lr sr xs ys zs i j k li lj lk e p =
      let v = value row xs i li in
      let w = value row ys j lj in
      let u = value row zs k lk in
      let a = weights_value row xs i li in
      let b = weights_value row ys j lj in
      let c = weights_value row zs k lk in
      let s = places_sum3 r (row v) (row w) (row u) (lr ∙ sym (long v)) (long v ∙ sym (long w)) (long w ∙ sym (long u)) sr (value_small v) (value_small w) (value_small u) (omega (arith, ints)) p in
      let a' = places_value row p xs i li in
      let b' = places_value row p ys j lj in
      let c' = places_value row p zs k lk in
      omega (arith, ints)

  pub entry_row : (r : List ℤ) → length r ≡ count → Small most r → (xs : List V) (i : ℕ) → i < length xs → at_z (weights row xs) i ≡ weight r → (p : ℕ) → at_z (places row p xs) i ≡ place p r
  entry_row r lr sr xs i li e p =
      let v = value row xs i li in
      let s = weight_same (row v) r (long v ∙ sym lr) (small_weaker most wide (omega arith) (row v) (value_small v)) (small_weaker most wide (omega arith) r sr) (sym (weights_value row xs i li) ∙ e) in
      places_value row p xs i li ∙ ap (place p) s

  pub entry_row_plus : (r : List ℤ) → length r ≡ count → Small most r → (h : V) (xs : List V) (i : ℕ) → i < length xs → at_z (weights row xs) i ≡ (weight r +ℤ weight (row h)) → (p : ℕ) → at_z (places row p xs) i ≡ (place p r +ℤ place p (row h))
  entry_row_plus r lr sr h xs i li e p =
      let v = value row xs i li in
      let a = weights_value row xs i li in
      let s = places_sum (row v) r (row h) (long v ∙ sym lr) (lr ∙ sym (long h)) (value_small v) sr (value_small h) (omega (arith, ints)) p in
      places_value row p xs i li ∙ s

-- an entry of a table of which each place is near
pub near_read : {V : Type 0} (row : V → List ℤ) (q : ℕ) (xs : List V) (k : ℕ) (x : V) → k < length xs → x ≡ get_or xs k x → TableNear row q xs → PlacesNear q (row x)
near_read row q xs k x l e all_Near p = let n = all_Near.all k l p in let z = places_at row p xs k x l e in (omega (arith, ints), omega (arith, ints))

module _ {V : Type 0} (row : V → List ℤ) (count : ℕ) (long : (v : V) → length (row v) ≡ count) (near : (v : V) → kept (row v) ≡ row v) where
  -- an entry that weighs what a near one weighs is near
  pub near_as : (xs ys : List V) (k : ℕ) (x : V) (q : ℕ) → k < length ys → x ≡ get_or ys k x → length xs ≡ length ys → at_z (weights row ys) k ≡ at_z (weights row xs) k → ((p : ℕ) → Near q (at_z (places row p xs) k)) → PlacesNear q (row x)
  near_as xs ys k x q l read e w all_Near p =
      let same = entry_same row count long near ys xs k k l (omega arith) w p in
      let here = places_at row p ys k x l read in
      let n = all_Near p in
      (omega (arith, ints), omega (arith, ints))
