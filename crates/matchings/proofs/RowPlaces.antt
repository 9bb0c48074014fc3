-- Rows place by place: sums, rows that are filled, and what equal weights say of the places. Assumes nothing.
use Rattle.std.proofs.Common.{◌≡◌, ℕ, zero, suc, ◌+◌, ◌<◌, ◌≤◌, ◌⊎◌, List, [], ◌∷◌, length, replicate, ℤ, pos, ◌+ℤ◌, ◌-ℤ◌, neg_ℤ, ◌≤ℤ◌, sym, refl, ap, ◌∙◌, inl, inr, arith}
use borrow.Author.Differences.{ints}
use Rattle.std.proofs.lemmas.List.{length-map}
use Rattle.rows.proofs.Bounds.{kept_same, small_added, small_opposite, small_weaker, length_added}
use Rattle.rows.proofs.Firsts.{same_from_below}
use Rattle.rows.proofs.Weights.{weight_added, weight_opposite, weight_order}
use Rattle.rows.specs.Places.{added, opposite, most, kept, Small, shift, weigh, weight, wide}
use Rattle.matchings.specs.Rowed.{place, PlacesNear}

-- ---- rows by places

pub place_added : (p : ℕ) (xs ys : List ℤ) → length xs ≡ length ys → place p (added xs ys) ≡ (place p xs +ℤ place p ys)
place_added p [] [] e = omega (arith, ints)
place_added p [] (y ∷ ys) e = absurd (omega arith)
place_added p (x ∷ xs) [] e = absurd (omega arith)
place_added zero (x ∷ xs) (y ∷ ys) e = refl
place_added (suc p) (x ∷ xs) (y ∷ ys) e = place_added p xs ys (omega arith)

pub places_near : (q : ℕ) (xs : List ℤ) → Small q xs → PlacesNear q xs
places_near q [] h p = (omega (arith, ints), omega (arith, ints))
places_near q (x ∷ xs) h zero = h.0
places_near q (x ∷ xs) h (suc p) = places_near q xs h.1 p

pub small_from_near : (q : ℕ) (xs : List ℤ) → PlacesNear q xs → Small q xs
small_from_near q [] h = tt
small_from_near q (x ∷ xs) h = (h 0, small_from_near q xs (λ p. h (suc p)))

-- ---- the weight tells rows apart

pub weight_same : (xs ys : List ℤ) → length xs ≡ length ys → Small wide xs → Small wide ys → weight xs ≡ weight ys → xs ≡ ys
weight_same xs ys e h k w =
    same_from_below xs ys e
    (weight_order xs ys e h k ∙ sym (omega (arith, ints)))
    (weight_order ys xs (sym e) k h ∙ sym (omega (arith, ints)))

-- a row that weighs as much as two together has at each place what they have together
pub places_sum : (r x y : List ℤ) → length r ≡ length x → length x ≡ length y → Small most r → Small most x → Small most y → weight r ≡ (weight x +ℤ weight y) → (p : ℕ) → place p r ≡ (place p x +ℤ place p y)
places_sum r x y e f h k m w p =
    let la = length_added x y f in
    let s = small_weaker (most + most) wide (omega arith) (added x y) (small_added most most x y k m) in
    let same = weight_same r (added x y) (e ∙ sym la) (small_weaker most wide (omega arith) r h) s (w ∙ sym (weight_added x y f)) in
    ap (place p) same ∙ place_added p x y f

pub places_sum3 : (r x y z : List ℤ) → length r ≡ length x → length x ≡ length y → length y ≡ length z → Small most r → Small most x → Small most y → Small most z → weight r ≡ (weight x +ℤ (weight y +ℤ weight z)) → (p : ℕ) → place p r ≡ (place p x +ℤ (place p y +ℤ place p z))
places_sum3 r x y z e f g h k m l w p =
    let lb = length_added y z g in
    let lf : length x ≡ length (added y z) = f ∙ sym lb in
    let la = length_added x (added y z) lf in
    let s2 = small_added most most y z m l in
    let s3 = small_weaker (most + (most + most)) wide (omega arith) (added x (added y z)) (small_added most (most + most) x (added y z) k s2) in
    let w2 = weight_added y z g in
    let w3 = weight_added x (added y z) lf in
    let same = weight_same r (added x (added y z)) (e ∙ sym la) (small_weaker most wide (omega arith) r h) s3 (omega (arith, ints)) in
    let p2 = place_added p y z g in
    let p3 = place_added p x (added y z) lf in
    let q : place p r ≡ place p (added x (added y z)) = ap (place p) same in
    omega (arith, ints)

-- what `plus` and `minus` give, where the bound is not met
pub plus_weight : (q u : ℕ) (x y r : List ℤ) → length x ≡ length y → PlacesNear q x → PlacesNear u y → q + u ≤ most → r ≡ kept (added x y) → weight r ≡ (weight x +ℤ weight y)
plus_weight q u x y r e h k l is =
    ap weight (is ∙ kept_same (added x y) (small_weaker (q + u) most l (added x y) (small_added q u x y (small_from_near q x h) (small_from_near u y k)))) ∙ weight_added x y e

pub minus_weight : (q u : ℕ) (x y r : List ℤ) → length x ≡ length y → PlacesNear q x → PlacesNear u y → q + u ≤ most → r ≡ kept (added x (opposite y)) → weight r ≡ (weight x -ℤ weight y)
minus_weight q u x y r e h k l is =
    let f : length x ≡ length (opposite y) = e ∙ sym (length-map y neg_ℤ) in
    let s = small_opposite u y (small_from_near u y k) in
    let w = weight_added x (opposite y) f in
    let o = weight_opposite y in
    let t : weight r ≡ weight (added x (opposite y)) = ap weight (is ∙ kept_same (added x (opposite y)) (small_weaker (q + u) most l (added x (opposite y)) (small_added q u x (opposite y) (small_from_near q x h) s))) in
    omega (arith, ints)

-- a row that is nowhere above another weighs no more
weigh_le : (a b : ℤ) (xs ys : List ℤ) → length xs ≡ length ys → a ≤ℤ b → ((p : ℕ) → place p xs ≤ℤ place p ys) → weigh a xs ≤ℤ weigh b ys
weigh_le a b [] [] e l h = l
weigh_le a b [] (y ∷ ys) e l h = absurd (omega arith)
weigh_le a b (x ∷ xs) [] e l h = absurd (omega arith)
weigh_le a b (x ∷ xs) (y ∷ ys) e l h =
    let first : x ≤ℤ y = h 0 in
    weigh_le (shift a x) (shift b y) xs ys (omega arith) (omega (arith, ints)) (λ p. h (suc p))

pub weight_le : (xs ys : List ℤ) → length xs ≡ length ys → ((p : ℕ) → place p xs ≤ℤ place p ys) → weight xs ≤ℤ weight ys
weight_le xs ys e h = weigh_le (pos 0) (pos 0) xs ys e (omega (arith, ints)) h

-- ---- rows of one number

-- a place of a row that has the same number in each, or past its end
pub place_filled_or_zero : (q n : ℕ) (x : ℤ) → (place q (replicate n x) ≡ x) ⊎ (place q (replicate n x) ≡ pos 0)
place_filled_or_zero q zero x = inr refl
place_filled_or_zero zero (suc n) x = inl refl
place_filled_or_zero (suc q) (suc n) x = place_filled_or_zero q n x

-- past the end of a row
pub place_over : (q : ℕ) (xs : List ℤ) → length xs ≤ q → place q xs ≡ pos 0
place_over q [] l = refl
place_over zero (x ∷ xs) l = absurd (omega arith)
place_over (suc q) (x ∷ xs) l = place_over q xs (omega arith)

pub place_filled : (q n : ℕ) (x : ℤ) → q < n → place q (replicate n x) ≡ x
place_filled q zero x l = absurd (omega arith)
place_filled zero (suc n) x l = refl
place_filled (suc q) (suc n) x l = place_filled q n x (omega arith)

pub weight_zeros : (n : ℕ) → weight (replicate n (pos 0)) ≡ pos 0
weight_zeros zero = refl
weight_zeros (suc n) = weight_zeros n

pub place_zeros : (p n : ℕ) → place p (replicate n (pos 0)) ≡ pos 0
place_zeros p zero = refl
place_zeros zero (suc n) = refl
place_zeros (suc p) (suc n) = place_zeros p n

pub place_opposite : (p : ℕ) (xs : List ℤ) → place p (opposite xs) ≡ neg_ℤ (place p xs)
place_opposite p [] = refl
place_opposite zero (x ∷ xs) = refl
place_opposite (suc p) (x ∷ xs) = place_opposite p xs

-- a wider bound
pub near_more : (q u : ℕ) (r : List ℤ) → q ≤ u → PlacesNear q r → PlacesNear u r
near_more q u r l h p = let z = h p in (omega (arith, ints), omega (arith, ints))
