-- What a way by a third berth does to a length. Assumes nothing.
use Rattle.std.proofs.Common.{◌≡◌, ℕ, ◌+◌, ◌≤◌, ltb, ◌⊎◌, Some, None, Option, refl, ap, inl, inr, ⊎_elim, arith}
use Rattle.std.proofs.lemmas.Bool.{le-ltb, cond-false}
use Rattle.walks.specs.Tables.{shorter, via}
use Rattle.walks.proofs.Leasts.{AtMost, shorter_is, shorter_new, shorter_old}

-- A way that is a part of itself is never shorter.
pub via_last : (a b : Option ℕ) → via a b b ≡ b
via_last None b = refl
via_last (Some a) None = refl
via_last (Some a) (Some b) = ap Some (cond-false (ltb (a + b) b) (a + b) b (le-ltb (a + b) b (omega arith)))

pub via_first : (a b : Option ℕ) → via a b a ≡ a
via_first None b = refl
via_first (Some a) None = refl
via_first (Some a) (Some b) = ap Some (cond-false (ltb (a + b) a) (a + b) a (le-ltb (a + b) a (omega arith)))

-- The new length is at most the old one, and at most the two parts.
pub via_old : (a b o : Option ℕ) (n : ℕ) → AtMost o n → AtMost (via a b o) n
via_old None b o n h = h
via_old (Some a) None o n h = h
via_old (Some a) (Some b) o n h = shorter_old (a + b) o n h

pub via_parts : (a b o : Option ℕ) (m n : ℕ) → a ≡ Some m → b ≡ Some n → AtMost (via a b o) (m + n)
via_parts a b o m n p q = rw (p, q) (shorter_new (m + n) o)

-- A length n is that of two parts.
abbrev pub Parts : Option ℕ → Option ℕ → ℕ → Type 0
Parts a b n = (p : ℕ) × (q : ℕ) × (a ≡ Some p) × (b ≡ Some q) × (n ≡ p + q)

-- The new length is the old one or that of the two parts.
pub via_is : (a b o : Option ℕ) (n : ℕ) → via a b o ≡ Some n → (o ≡ Some n) ⊎ Parts a b n
via_is None b o n e = inl e
via_is (Some a) None o n e = inl e
via_is (Some a) (Some b) o n e =
    let is : shorter (a + b) o ≡ n = cc in
    ⊎_elim (λ l. inr (a, b, refl, refl, cc)) (λ r. inl (cc)) (shorter_is (a + b) o)

-- Lengths at most double.
pub via_within : (most : ℕ) (a b o : Option ℕ) (n : ℕ) → ((m : ℕ) → a ≡ Some m → m ≤ most) → ((m : ℕ) → b ≡ Some m → m ≤ most) → ((m : ℕ) → o ≡ Some m → m ≤ most) → via a b o ≡ Some n → n ≤ most + most
via_within most a b o n ha hb ho e =
    ⊎_elim (λ l. let h = ho n l in omega arith) (λ r. let f = ha r.0 r.2 in let g = hb r.1 r.3 in omega (arith, r.4)) (via_is a b o n e)
