-- The weight of a row adds up, and orders rows as their places do. Assumes nothing.
use Rattle.std.proofs.Common.{◌≡◌, ◌*◌, Bool, true, false, cond, List, [], ◌∷◌, length, ℤ, pos, ◌+ℤ◌, ◌*ℤ◌, neg_ℤ, ◌<ℤ◌, sym, refl, ap, ◌∙◌, arith}
use borrow.Author.Differences.{ints, up, down, sum_is_lem, product_is}
use lib.Signed.{lt_z}
use Rattle.rows.specs.Places.{added, opposite, scaled, Small, below, shift, weigh, weight, wide}

-- ---- sums
weigh_added : (a b : ℤ) (xs ys : List ℤ) → length xs ≡ length ys → weigh (a +ℤ b) (added xs ys) ≡ weigh a xs +ℤ weigh b ys
weigh_added a b [] [] e = refl
weigh_added a b [] (y ∷ ys) e = absurd (omega arith)
weigh_added a b (x ∷ xs) [] e = absurd (omega arith)
weigh_added a b (x ∷ xs) (y ∷ ys) e =
    let step : shift (a +ℤ b) (x +ℤ y) ≡ shift a x +ℤ shift b y = omega (arith, ints) in
    ap (λ c. weigh c (added xs ys)) step ∙ weigh_added (shift a x) (shift b y) xs ys (omega arith)

pub weight_added : (xs ys : List ℤ) → length xs ≡ length ys → weight (added xs ys) ≡ weight xs +ℤ weight ys
weight_added xs ys e = weigh_added (pos 0) (pos 0) xs ys e

-- ---- the other side of zero
weigh_opposite : (a : ℤ) (xs : List ℤ) → weigh (neg_ℤ a) (opposite xs) ≡ neg_ℤ (weigh a xs)
weigh_opposite a [] = refl
weigh_opposite a (x ∷ xs) =
    let step : shift (neg_ℤ a) (neg_ℤ x) ≡ neg_ℤ (shift a x) = omega (arith, ints) in
    ap (λ c. weigh c (opposite xs)) step ∙ weigh_opposite (shift a x) xs

pub weight_opposite : (xs : List ℤ) → weight (opposite xs) ≡ neg_ℤ (weight xs)
weight_opposite xs = weigh_opposite (pos 0) xs

-- ---- order
weigh_below : (a b : ℤ) (xs ys : List ℤ) → length xs ≡ length ys → Small wide xs → Small wide ys → a <ℤ b → weigh a xs <ℤ weigh b ys
weigh_below a b [] [] e p q l = l
weigh_below a b [] (y ∷ ys) e p q l = absurd (omega arith)
weigh_below a b (x ∷ xs) [] e p q l = absurd (omega arith)
weigh_below a b (x ∷ xs) (y ∷ ys) e p q l =
    weigh_below (shift a x) (shift b y) xs ys (omega arith) p.1 q.1 (omega (arith, ints))

order_step : (a x y : ℤ) (xs ys : List ℤ) → length xs ≡ length ys → Small wide (x ∷ xs) → Small wide (y ∷ ys) → below xs ys ≡ lt_z (weigh (shift a x) xs) (weigh (shift a x) ys) → (t u : Bool) → lt_z x y ≡ t → lt_z y x ≡ u → cond t true (cond u false (below xs ys)) ≡ lt_z (weigh (shift a x) xs) (weigh (shift a y) ys)
order_step a x y xs ys e p q i true u f g =
    let l : shift a x <ℤ shift a y = omega (arith, ints) in
    let m : weigh (shift a x) xs <ℤ weigh (shift a y) ys = weigh_below (shift a x) (shift a y) xs ys e p.1 q.1 l in
    omega (arith, ints)
order_step a x y xs ys e p q i false true f g =
    let l : shift a y <ℤ shift a x = omega (arith, ints) in
    let m : weigh (shift a y) ys <ℤ weigh (shift a x) xs = weigh_below (shift a y) (shift a x) ys xs (sym e) q.1 p.1 l in
    omega (arith, ints)
order_step a x y xs ys e p q i false false f g =
    let same : y ≡ x = omega (arith, ints) in
    i ∙ ap (λ z. lt_z (weigh (shift a x) xs) (weigh (shift a z) ys)) (sym same)

weigh_order : (a : ℤ) (xs ys : List ℤ) → length xs ≡ length ys → Small wide xs → Small wide ys → below xs ys ≡ lt_z (weigh a xs) (weigh a ys)
weigh_order a [] [] e p q = omega (arith, ints)
weigh_order a [] (y ∷ ys) e p q = absurd (omega arith)
weigh_order a (x ∷ xs) [] e p q = absurd (omega arith)
weigh_order a (x ∷ xs) (y ∷ ys) e p q =
    order_step a x y xs ys (omega arith) p q (weigh_order (shift a x) xs ys (omega arith) p.1 q.1) (lt_z x y) (lt_z y x) refl refl

-- rows of one length, each place within a quarter of the base, stand as their weights do
pub weight_order : (xs ys : List ℤ) → length xs ≡ length ys → Small wide xs → Small wide ys → below xs ys ≡ lt_z (weight xs) (weight ys)
weight_order = weigh_order (pos 0)

-- ---- whole multiples
times_sum : (a b k : ℤ) → (a +ℤ b) *ℤ k ≡ a *ℤ k +ℤ b *ℤ k
times_sum a b k = omega (arith, ints, ap (λ n. n * up k) (sum_is_lem a b), ap (λ n. n * down k) (sum_is_lem a b))

-- a digit's shift and a whole multiple can change places
times_shift : (a k : ℤ) → a *ℤ pos 10000000000000000000000000000000000000000 *ℤ k ≡ a *ℤ k *ℤ pos 10000000000000000000000000000000000000000
times_shift a k =
    let p = product_is a (pos 10000000000000000000000000000000000000000) in
    omega (arith, ints, ap (λ n. n * up k) p.0, ap (λ n. n * down k) p.0, ap (λ n. n * up k) p.1, ap (λ n. n * down k) p.1)

weigh_scaled : (k a : ℤ) (xs : List ℤ) → weigh (a *ℤ k) (scaled k xs) ≡ weigh a xs *ℤ k
weigh_scaled k a [] = refl
weigh_scaled k a (x ∷ xs) =
    let step : shift (a *ℤ k) (x *ℤ k) ≡ shift a x *ℤ k = sym (times_sum (a *ℤ pos 10000000000000000000000000000000000000000) x k ∙ ap (λ n. n +ℤ x *ℤ k) (times_shift a k)) in
    ap (λ c. weigh c (scaled k xs)) step ∙ weigh_scaled k (shift a x) xs

pub weight_scaled : (k : ℤ) (xs : List ℤ) → weight (scaled k xs) ≡ weight xs *ℤ k
weight_scaled k xs = let z : pos 0 ≡ pos 0 *ℤ k = omega (arith, ints) in ap (λ c. weigh c (scaled k xs)) z ∙ weigh_scaled k (pos 0) xs
