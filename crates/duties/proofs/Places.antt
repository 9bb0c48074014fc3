-- The counting words by places, and the steps of loops.
use Rattle.std.proofs.Common.{◌≡◌, ℕ, zero, suc, ◌+◌, ◌<◌, ◌≤◌, Bool, true, false, cond, eqb, List, [], ◌∷◌, length, get_or, ℤ, ◌+ℤ◌, sym, refl, ap, ◌∙◌, add-one, arith}
use Rattle.std.specs.List.{ContainsAt as Has}
use Rattle.std.proofs.lemmas.Bool.{eqb-true}
use Rattle.std.proofs.lemmas.Bool.Decides.{nat_tests}
use Rattle.duties.specs.Duties.{wholes, times, below, missing, sum_over}
use Rattle.duties.specs.Words.{Apart, Words}
use Rattle.duties.proofs.Occurs.{times_missing}

pub times_at : (xs : List ℕ) (i d k : ℕ) → i < length xs → get_or xs i d ≡ k → 0 < times k xs
times_at [] i d k l e = absurd (omega arith)
times_at (x ∷ xs) zero d k l e = grind (arith, nat_tests)
times_at (x ∷ xs) (suc i) d k l e = let ih = times_at xs i d k (omega arith) e in grind (arith, nat_tests)

place_step : (x k : ℕ) (xs : List ℕ) (t : Bool) → eqb k x ≡ t → (t ≡ false → Has xs k) → Has (x ∷ xs) k
place_step x k xs true e rest = (0, omega arith, λ d. sym (eqb-true k x e))
place_step x k xs false e rest = let r = rest refl in (suc r.0, omega (arith, r.1), r.2)

pub place_of : (xs : List ℕ) (k : ℕ) → 0 < times k xs → Has xs k
place_of [] k h = absurd (omega arith)
place_of (x ∷ xs) k h = place_step x k xs (eqb k x) refl (λ e. place_of xs k (grind arith))

pub nowhere : (xs : List ℕ) (k : ℕ) → (Has xs k → ⊥) → times k xs ≡ 0
nowhere xs k h = let no_place : 0 < times k xs → ⊥ = λ l. h (place_of xs k l) in grind arith

twice_at : (xs : List ℕ) (i j d k : ℕ) → i < j → j < length xs → get_or xs i d ≡ k → get_or xs j d ≡ k → 1 < times k xs
twice_at [] i j d k l w e f = absurd (omega arith)
twice_at (x ∷ xs) zero zero d k l w e f = absurd (omega arith)
twice_at (x ∷ xs) (suc i) zero d k l w e f = absurd (omega arith)
twice_at (x ∷ xs) zero (suc j) d k l w e f = let r = times_at xs j d k (omega arith) f in grind (arith, nat_tests)
twice_at (x ∷ xs) (suc i) (suc j) d k l w e f = let ih = twice_at xs i j d k (omega arith) (omega arith) e f in grind (arith, nat_tests)

pub apart_once : (xs : List ℕ) → Apart xs → (k : ℕ) → times k xs ≤ 1
apart_once [] h k = omega arith
apart_once (x ∷ xs) h k =
    let ih = apart_once xs (λ i j d l w e. h (suc i) (suc j) d (omega arith) (omega arith) e) k in
    let none : k ≡ x → times k xs ≡ 0 = λ e. nowhere xs k (λ p. h 0 (suc p.0) 0 (omega arith) (omega (arith, p.1)) (sym e ∙ sym (p.2 0))) in
    grind (arith, nat_tests)

pub words : Words
words xs = record {
  nowhere = λ k. ((λ z p. let l = times_at xs p.0 0 k p.1 (p.2 0) in omega arith), nowhere xs k);
  once = ((λ one i j d l w e. let t = twice_at xs i j d (get_or xs j d) l w e refl in let o = one (get_or xs j d) in omega arith), apart_once xs);
  left_out = λ n k. (
    (λ l. let m = times_missing k n xs in let z : times k xs ≡ 0 = grind (arith, nat_tests) in
        ((let lt : k < n = grind (arith, nat_tests) in lt), λ p. let q = times_at xs p.0 0 k p.1 (p.2 0) in omega arith)),
    (λ h. let m = times_missing k n xs in let z = nowhere xs k h.1 in let l = h.0 in grind (arith, nat_tests)),
  );
}

-- ---- a loop that counts i up
pub sum_below_more : (f : ℕ → ℤ) (i : ℕ) → sum_over wholes f (below (i + 1)) ≡ f i +ℤ sum_over wholes f (below i)
sum_below_more f i = rw add-one

pub missing_more_yes : (xs : List ℕ) (i : ℕ) → times i xs ≡ 0 → missing (i + 1) xs ≡ i ∷ missing i xs
missing_more_yes xs i z = rw (add-one, z)

pub missing_more_no : (xs : List ℕ) (i : ℕ) → 0 < times i xs → missing (i + 1) xs ≡ missing i xs
missing_more_no xs i l = let f : eqb (times i xs) 0 ≡ false = grind (arith, nat_tests) in rw add-one (ap (λ t. cond t (i ∷ missing i xs) (missing i xs)) f)
