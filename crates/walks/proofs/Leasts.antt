-- What is known of a least number, and how it changes where one more number is allowed. Assumes nothing.
use Rattle.std.proofs.Common.{◌≡◌, ℕ, ◌≤◌, ltb, ◌⊎◌, Some, None, Option, sym, refl, subst, inl, inr, ⊎_elim, arith}
use Rattle.std.proofs.lemmas.Bool.{cases_Bool, ltb-true, ltb-false, cond-true, cond-false}
use Rattle.walks.specs.Walks.{LeastOf}
use Rattle.walks.specs.Tables.{shorter}

pub no_some : {P : Type 0} (n : ℕ) → None ≡ Some n → P
no_some n e = let z : ◌≡◌ {A = ℕ} 0 1 = cc in absurd (omega arith)

-- There is a number, and it is at most n.
abbrev pub AtMost : Option ℕ → ℕ → Type 0
AtMost None n = ⊥
AtMost (Some m) n = m ≤ n

pub most_out : (o : Option ℕ) (n : ℕ) → AtMost o n → (m : ℕ) × (o ≡ Some m) × (m ≤ n)
most_out None n h = absurd h
most_out (Some m) n h = (m, refl, h)

pub most_in : (o : Option ℕ) (m n : ℕ) → o ≡ Some m → m ≤ n → AtMost o n
most_in o m n e h = subst (λ w. AtMost w n) (sym e) h

pub most_le : (o : Option ℕ) (m n : ℕ) → m ≤ n → AtMost o m → AtMost o n
most_le None m n h a = a
most_le (Some k) m n h a = omega arith

-- A least number is what LeastOf says of it, taken apart and put together.
pub least_holds : (P : ℕ → Type 0) (o : Option ℕ) (n : ℕ) → LeastOf P o → o ≡ Some n → P n
least_holds P None n l e = no_some n e
least_holds P (Some m) n l e = let is : m ≡ n = cc in subst P is l.0

pub least_low : (P : ℕ → Type 0) (o : Option ℕ) (n : ℕ) → LeastOf P o → P n → AtMost o n
least_low P None n l p = l n p
least_low P (Some m) n l p = l.1 n p

pub least_from : (P : ℕ → Type 0) (o : Option ℕ) → ((n : ℕ) → o ≡ Some n → P n) → ((n : ℕ) → P n → AtMost o n) → LeastOf P o
least_from P None holds low = low
least_from P (Some m) holds low = (holds m refl, low)

pub least_same : (P Q : ℕ → Type 0) (o : Option ℕ) → ((n : ℕ) → P n → Q n) → ((n : ℕ) → Q n → P n) → LeastOf P o → LeastOf Q o
least_same P Q o there back l = least_from Q o (λ n e. there n (least_holds P o n l e)) (λ n q. least_low P o n l (back n q))

pub least_one : (P : ℕ → Type 0) (c d : Option ℕ) → LeastOf P c → LeastOf P d → c ≡ d
least_one P None None l k = refl
least_one P None (Some n) l k = absurd (l n k.0)
least_one P (Some m) None l k = absurd (k m l.0)
least_one P (Some m) (Some n) l k =
    let low = l.1 n k.0 in
    let high = k.1 m l.0 in
    let is : m ≡ n = omega arith in
    subst (λ w. Some m ≡ Some w) is refl

-- The shorter of two is one of them, and at most each.
pub shorter_is : (n : ℕ) (o : Option ℕ) → (shorter n o ≡ n) ⊎ (o ≡ Some (shorter n o))
shorter_is n None = inl refl
shorter_is n (Some m) =
    ⊎_elim (λ t. inl (cond-true (ltb n m) n m t)) (λ f. inr (let e = cond-false (ltb n m) n m f in cc)) (cases_Bool (ltb n m))

pub shorter_new : (n : ℕ) (o : Option ℕ) → shorter n o ≤ n
shorter_new n None = omega arith
shorter_new n (Some m) =
    ⊎_elim
    (λ t. let e = cond-true (ltb n m) n m t in omega arith)
    (λ f. let e = cond-false (ltb n m) n m f in let l = ltb-false n m f in omega arith)
    (cases_Bool (ltb n m))

pub shorter_old : (n : ℕ) (o : Option ℕ) (k : ℕ) → AtMost o k → shorter n o ≤ k
shorter_old n None k h = absurd h
shorter_old n (Some m) k h =
    ⊎_elim
    (λ t. let e = cond-true (ltb n m) n m t in let l = ltb-true n m t in omega arith)
    (λ f. let e = cond-false (ltb n m) n m f in omega arith)
    (cases_Bool (ltb n m))

-- One more number is allowed.
pub least_more : (P Q : ℕ → Type 0) (m : ℕ) (o : Option ℕ) → ((n : ℕ) → P n → Q n) → Q m → ((n : ℕ) → Q n → P n ⊎ (n ≡ m)) → LeastOf P o → LeastOf Q (Some (shorter m o))
least_more P Q m o keep new only l = (
  ⊎_elim (λ e. subst Q (sym e) new) (λ e. keep _ (least_holds P o _ l e)) (shorter_is m o),
  λ n q. ⊎_elim (λ p. shorter_old m o n (least_low P o n l p)) (λ e. let low = shorter_new m o in omega arith) (only n q),
)
