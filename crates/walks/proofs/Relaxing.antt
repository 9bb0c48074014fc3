-- Trying ways by each berth in turn gives the least lengths of walks. Assumes nothing.
use Rattle.std.proofs.Common.{◌≡◌, ℕ, ◌+◌, ◌<◌, ◌⊎◌, List, Some, Option, sym, ◌∙◌, subst, ⊎_elim, add-zero, arith}
use Rattle.std.proofs.lemmas.Bool.{cases_lt, cases_eq}
use Rattle.walks.specs.declared.edge.Edge.{Edge}
use Rattle.walks.specs.Walks.{IsBerth, Step, Walk, stay, go, LeastOf, Least}
use Rattle.walks.specs.Tables.{Table, at, via, TableOf}
use Rattle.walks.proofs.Leasts.{AtMost, most_out, most_in, most_le, least_holds, least_low, least_from}
use Rattle.walks.proofs.Ways.{Parts, via_first, via_last, via_old, via_parts, via_is}

-- Two walks, one after the other.
pub joined : {es : List Edge} {x y z m n : ℕ} → Walk es x y m → Walk es y z n → Walk es x z (m + n)
joined {es = es} {x = x} {z = z} {n = n} (stay h) w = subst (Walk es x z) (omega arith) w
joined {es = es} {x = x} {z = z} {n = n} (go {m = a} {n = b} s v) w = subst (Walk es x z) (omega arith) (go s (joined v w))

-- What holds of lengths once ways by each berth below k were tried: each is that of a walk, at most that of a step, at most
-- 0 from a berth to itself, and at most that of a way by a berth below k.
pub record Settled (es : List Edge) (k : ℕ) (d : ℕ → ℕ → Option ℕ) : Type 0 where
  pub sound : (x y n : ℕ) → IsBerth x → IsBerth y → d x y ≡ Some n → Walk es x y n
  pub step : (x y n : ℕ) → Step es x y n → AtMost (d x y) n
  pub home : (x : ℕ) → IsBerth x → AtMost (d x x) 0
  pub corner : (j x y a b : ℕ) → j < k → IsBerth x → IsBerth y → d x j ≡ Some a → d j y ≡ Some b → AtMost (d x y) (a + b)

-- The lengths of single steps, and 0 from each berth to itself.
pub settled_none : (es : List Edge) (d : ℕ → ℕ → Option ℕ) → ((x : ℕ) → IsBerth x → d x x ≡ Some 0) → ((x y : ℕ) → IsBerth x → IsBerth y → (x ≡ y → ⊥) → LeastOf (Step es x y) (d x y)) → Settled es 0 d
settled_none es d home apart = record {
  sound = λ x y n hx hy h.
      ⊎_elim
      (λ is.
      let here = subst (λ v. d x v ≡ Some 0) is (home x hx) in
      let z : 0 ≡ n = cc in
      subst (Walk es x y) z (subst (λ v. Walk es x v 0) is (stay hx)))
      (λ ne. subst (Walk es x y) (add-zero n) (go (least_holds (Step es x y) (d x y) n (apart x y hx hy ne) h) (stay hy)))
      (cases_eq x y);
  step = λ x y n s.
      ⊎_elim
      (λ is. most_in (d x y) 0 n (subst (λ v. d x v ≡ Some 0) is (home x s.from)) (omega arith))
      (λ ne. least_low (Step es x y) (d x y) n (apart x y s.from s.to ne) s)
      (cases_eq x y);
  home = λ x hx. most_in (d x x) 0 0 (home x hx) (omega arith);
  corner = λ j x y a b hj. absurd (omega arith);
}

-- One round more: t is s with ways by k tried.
module _ (es : List Edge) (k : ℕ) (s t : ℕ → ℕ → Option ℕ) (lt : IsBerth k) (g : Settled es k s) (all : (x y : ℕ) → IsBerth x → IsBerth y → t x y ≡ via (s x k) (s k y) (s x y)) where
  came : (x y n : ℕ) → IsBerth x → IsBerth y → t x y ≡ Some n → (s x y ≡ Some n) ⊎ Parts (s x k) (s k y) n
  came x y n hx hy h = via_is (s x k) (s k y) (s x y) n (sym (all x y hx hy) ∙ h)

  kept : (x y n : ℕ) → IsBerth x → IsBerth y → AtMost (s x y) n → AtMost (t x y) n
  kept x y n hx hy h = rw (all x y hx hy) (via_old (s x k) (s k y) (s x y) n h)

  by_k : (x y a b : ℕ) → IsBerth x → IsBerth y → s x k ≡ Some a → s k y ≡ Some b → AtMost (t x y) (a + b)
  by_k x y a b hx hy p q = rw (all x y hx hy) (via_parts (s x k) (s k y) (s x y) a b p q)

  -- a way by an older berth j, whose parts may now go by k
  corner_old : (j x y a b : ℕ) → j < k → IsBerth x → IsBerth y → t x j ≡ Some a → t j y ≡ Some b → AtMost (t x y) (a + b)
  corner_old j x y a b hj hx hy p q =
      let jl : IsBerth j = omega arith in
      ⊎_elim
      (λ l.
      ⊎_elim
      (λ m. kept x y (a + b) hx hy (g.corner j x y a b hj hx hy l m))
      (λ n.
      let w = most_out _ _ (g.corner j x k a n.0 hj hx lt l n.2) in
      most_le (t x y) (w.0 + n.1) (a + b) (omega (arith, w.2, n.4)) (by_k x y w.0 n.1 hx hy w.1 n.3))
      (came j y b jl hy q))
      (λ r.
      ⊎_elim
      (λ m.
      let w = most_out _ _ (g.corner j k y r.1 b hj lt hy r.3 m) in
      most_le (t x y) (r.0 + w.0) (a + b) (omega (arith, w.2, r.4)) (by_k x y r.0 w.0 hx hy r.2 w.1))
      (λ n. most_le (t x y) (r.0 + n.1) (a + b) (omega (arith, r.4, n.4)) (by_k x y r.0 n.1 hx hy r.2 n.3))
      (came j y b jl hy q))
      (came x j a hx jl p)

  corner_new : (x y a b : ℕ) → IsBerth x → IsBerth y → t x k ≡ Some a → t k y ≡ Some b → AtMost (t x y) (a + b)
  corner_new x y a b hx hy p q =
      by_k x y a b hx hy (sym (all x k hx lt ∙ via_first (s x k) (s k k)) ∙ p) (sym (all k y lt hy ∙ via_last (s k k) (s k y)) ∙ q)

  pub settled_more : Settled es (k + 1) t
  settled_more = record {
    sound = λ x y n hx hy h.
        ⊎_elim (λ l. g.sound x y n hx hy l)
        (λ r. subst (Walk es x y) (sym r.4) (joined (g.sound x k r.0 hx lt r.2) (g.sound k y r.1 lt hy r.3)))
        (came x y n hx hy h);
    step = λ x y n h. kept x y n h.from h.to (g.step x y n h);
    home = λ x hx. kept x x 0 hx hx (g.home x hx);
    corner = λ j x y a b hj hx hy p q.
        ⊎_elim (λ old. corner_old j x y a b old hx hy p q)
        (λ new.
        let is : j ≡ k = omega arith in
        corner_new x y a b hx hy (subst (λ v. t x v ≡ Some a) is p) (subst (λ v. t v y ≡ Some b) is q))
        (cases_lt j k);
  }

-- Where every berth was tried, no walk is shorter.
module _ (es : List Edge) (d : ℕ → ℕ → Option ℕ) (g : Settled es 32 d) where
  no_shorter : {x y n : ℕ} → IsBerth y → Walk es x y n → AtMost (d x y) n
  no_shorter hy (stay {x = x} h) = g.home x h
  no_shorter hy (go {x = x} {y = y} {z = z} {m = m} {n = n} s w) =
      let a = most_out _ _ (g.step x y m s) in
      let b = most_out _ _ (no_shorter hy w) in
      most_le (d x z) (a.0 + b.0) (m + n) (omega (arith, a.2, b.2)) (g.corner y x z a.0 b.0 s.to s.from hy a.1 b.1)

  pub settled_least : (x y : ℕ) → IsBerth x → IsBerth y → Least es x y (d x y)
  settled_least x y hx hy = least_from (Walk es x y) (d x y) (λ n. g.sound x y n hx hy) (λ n w. no_shorter hy w)

pub settled_table : (es : List Edge) (t : Table) → Settled es 32 (at t) → TableOf es t
unfolding TableOf
settled_table es t g = settled_least es (at t) g
