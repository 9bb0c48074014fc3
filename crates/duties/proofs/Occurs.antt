-- How often positions stand in lists, and sums over lists in which the same positions stand.
use Rattle.std.proofs.Common.{◌≡◌, ℕ, zero, suc, ◌+◌, ◌<◌, ◌≤◌, Bool, true, false, cond, eqb, ltb, List, [], ◌∷◌, ◌++◌, length, ℤ, ◌+ℤ◌, filter, sym, refl, ap, ◌∙◌, arith}
use Rattle.std.specs.List.{AllByRecursion}
use Rattle.std.proofs.lemmas.Int.{ints}
use Rattle.std.proofs.lemmas.Bool.{eqb-true}
use Rattle.std.proofs.lemmas.Bool.Decides.{nat_tests}
use Rattle.duties.specs.Duties.{wholes, times, below, missing, sum_over}

pub times_append : (k : ℕ) (xs ys : List ℕ) → times k (xs ++ ys) ≡ times k xs + times k ys
times_append k [] ys = omega arith
times_append k (x ∷ xs) ys = let ih = times_append k xs ys in grind (arith, nat_tests)

pub sum_append : (f : ℕ → ℤ) (xs ys : List ℕ) → sum_over wholes f (xs ++ ys) ≡ sum_over wholes f xs +ℤ sum_over wholes f ys
sum_append f [] ys = omega (arith, ints)
sum_append f (x ∷ xs) ys = let ih = sum_append f xs ys in omega (arith, ints)

-- one x is taken out
abbrev without : ℕ → List ℕ → List ℕ
without x [] = []
without x (y ∷ ys) = cond (eqb x y) ys (y ∷ without x ys)

times_without : (x k : ℕ) (ys : List ℕ) → 0 < times x ys → times k (x ∷ without x ys) ≡ times k ys
times_without x k [] h = absurd (omega arith)
times_without x k (y ∷ ys) h = let ih : 0 < times x ys → times k (x ∷ without x ys) ≡ times k ys = times_without x k ys in grind (arith, nat_tests)

sum_step : (f : ℕ → ℤ) (x y : ℕ) (ys zs : List ℕ) (t : Bool) → (t ≡ true → x ≡ y) → (t ≡ false → (f x +ℤ sum_over wholes f zs) ≡ sum_over wholes f ys) → (f x +ℤ sum_over wholes f (cond t ys (y ∷ zs))) ≡ (f y +ℤ sum_over wholes f ys)
sum_step f x y ys zs true same rest = ap (λ k. f k +ℤ sum_over wholes f ys) (same refl)
sum_step f x y ys zs false same rest = omega (arith, ints, rest refl)

sum_without : (f : ℕ → ℤ) (x : ℕ) (ys : List ℕ) → 0 < times x ys → (f x +ℤ sum_over wholes f (without x ys)) ≡ sum_over wholes f ys
sum_without f x [] h = absurd (omega arith)
sum_without f x (y ∷ ys) h = sum_step f x y ys (without x ys) (eqb x y) (eqb-true x y) (λ e. sum_without f x ys (grind arith))

length_without : (x : ℕ) (ys : List ℕ) → 0 < times x ys → suc (length (without x ys)) ≡ length ys
length_without x [] h = absurd (omega arith)
length_without x (y ∷ ys) h = let ih : 0 < times x ys → suc (length (without x ys)) ≡ length ys = length_without x ys in grind (arith, nat_tests)

none_times : (xs : List ℕ) → ((k : ℕ) → times k xs ≡ 0) → xs ≡ []
none_times [] e = refl
none_times (x ∷ xs) e = let h = e x in absurd (grind (arith, nat_tests))

-- lists in which each position stands equally often
abbrev pub Alike : List ℕ → List ℕ → Type 0
Alike xs ys = (k : ℕ) → times k xs ≡ times k ys

alike_rest : (x : ℕ) (xs ys : List ℕ) → Alike (x ∷ xs) ys → (0 < times x ys) × Alike xs (without x ys)
alike_rest x xs ys e =
    let some : 0 < times x ys = let h = e x in grind (arith, nat_tests) in
    (some, λ k. let h = e k in let w = times_without x k ys some in grind (arith, nat_tests))

pub alike_sum : (f : ℕ → ℤ) (xs ys : List ℕ) → Alike xs ys → sum_over wholes f xs ≡ sum_over wholes f ys
alike_sum f [] ys e = ap (sum_over wholes f) (sym (none_times ys (λ k. sym (e k))))
alike_sum f (x ∷ xs) ys e =
    let r = alike_rest x xs ys e in
    let ih = alike_sum f xs (without x ys) r.1 in
    omega (arith, ints, sum_without f x ys r.0)

pub alike_length : (xs ys : List ℕ) → Alike xs ys → length xs ≡ length ys
alike_length [] ys e = ap length (sym (none_times ys (λ k. sym (e k))))
alike_length (x ∷ xs) ys e =
    let r = alike_rest x xs ys e in
    let ih = alike_length xs (without x ys) r.1 in
    omega (arith, length_without x ys r.0)

pub times_kept : (p : ℕ → Bool) (k : ℕ) (xs : List ℕ) → times k (filter p xs) ≡ cond (p k) (times k xs) 0
times_kept p k [] = grind arith
times_kept p k (x ∷ xs) = let ih = times_kept p k xs in grind (arith, nat_tests)

pub times_below : (k n : ℕ) → times k (below n) ≡ cond (ltb k n) 1 0
times_below k zero = grind (arith, nat_tests)
times_below k (suc n) = let ih = times_below k n in grind (arith, nat_tests)

pub times_missing : (k n : ℕ) (xs : List ℕ) → times k (missing n xs) ≡ cond (eqb (times k xs) 0) (cond (ltb k n) 1 0) 0
times_missing k n xs = times_kept (λ k. eqb (times k xs) 0) k (below n) ∙ ap (λ m. cond (eqb (times k xs) 0) m 0) (times_below k n)

pub times_outside : (k n : ℕ) (xs : List ℕ) → AllByRecursion (λ x. x < n) xs → n ≤ k → times k xs ≡ 0
times_outside k n [] w h = refl
times_outside k n (x ∷ xs) w h = let ih = times_outside k n xs w.1 h in let l = w.0 in grind (arith, nat_tests)

-- what stands in xs and what is missing there are all positions below n
pub with_missing : (n : ℕ) (xs : List ℕ) → AllByRecursion (λ x. x < n) xs → ((k : ℕ) → times k xs ≤ 1) → Alike (xs ++ missing n xs) (below n)
with_missing n xs w one k =
    let e = times_append k xs (missing n xs) in
    let m = times_missing k n xs in
    let b = times_below k n in
    let o = one k in
    let out : n ≤ k → times k xs ≡ 0 = times_outside k n xs w in
    grind (arith, nat_tests)

pub all_front : {X : Type 0} (P : X → Type 0) (xs ys : List X) → AllByRecursion P (xs ++ ys) → AllByRecursion P xs
all_front P [] ys h = tt
all_front P (x ∷ xs) ys h = (h.0, all_front P xs ys h.1)

pub all_back : {X : Type 0} (P : X → Type 0) (xs ys : List X) → AllByRecursion P (xs ++ ys) → AllByRecursion P ys
all_back P [] ys h = h
all_back P (x ∷ xs) ys h = all_back P xs ys h.1

pub all_from_times : (P : ℕ → Type 0) (xs : List ℕ) → ((k : ℕ) → 0 < times k xs → P k) → AllByRecursion P xs
all_from_times P [] h = tt
all_from_times P (x ∷ xs) h = (h x (grind (arith, nat_tests)), all_from_times P xs (λ k l. h k (grind (arith, nat_tests))))
