-- Every walk can be made one that comes to no berth twice, and no longer: so it has at most 31 steps. Assumes nothing.
use Rattle.std.proofs.Common.{◌≡◌, ℕ, zero, suc, ◌+◌, ◌*◌, ◌<◌, ◌≤◌, Bool, true, false, cond, eqb, List, sym, refl, ap, ◌∙◌, subst, ⊎_elim, suc-mul, arith}
use Rattle.std.proofs.lemmas.Bool.{cases_lt, cases_eq, eq-eqb, ne_eqb, cond-true, cond-false, false≢true}
use Rattle.walks.specs.declared.edge.Edge.{Edge}
use Rattle.walks.specs.Walks.{IsBerth, Step, Walk, stay, go}
use Rattle.walks.specs.Laws.{NoneLonger}

-- The berths that are free, but for x.
abbrev but : (ℕ → Bool) → ℕ → ℕ → Bool
but free x y = cond (eqb y x) false (free y)

-- How many numbers below n are free.
count : (ℕ → Bool) → ℕ → ℕ
count free zero = 0
count free (suc n) = cond (free n) 1 0 + count free n

but_same : (free : ℕ → Bool) (x : ℕ) → but free x x ≡ false
but_same free x = cond-true (eqb x x) false (free x) (eq-eqb x x refl)

but_other : (free : ℕ → Bool) (x y : ℕ) → (y ≡ x → ⊥) → but free x y ≡ free y
but_other free x y ne = cond-false (eqb y x) false (free y) (ne_eqb y x ne)

count_below : (free : ℕ → Bool) (x n : ℕ) → n ≤ x → count (but free x) n ≡ count free n
unfolding count
count_below free x zero h = refl
count_below free x (suc n) h =
    let rest : count (but free x) n ≡ count free n = count_below free x n (omega arith) in
    let here = but_other free x n (λ e. omega arith) in
    cc

-- One fewer is free without x.
count_but : (free : ℕ → Bool) (x n : ℕ) → x < n → free x ≡ true → count free n ≡ 1 + count (but free x) n
unfolding count
count_but free x zero h f = absurd (omega arith)
count_but free x (suc n) h f =
    ⊎_elim
    (λ lt.
    let rest : count free n ≡ 1 + count (but free x) n = count_but free x n lt f in
    let here = but_other free x n (λ e. omega arith) in
    let same : ◌≡◌ {A = ℕ} (cond (but free x n) 1 0) (cond (free n) 1 0) = ap (λ b. cond b 1 0) here in
    omega arith)
    (λ ge.
    let is : x ≡ n = omega arith in
    let rest = count_below free x n (omega arith) in
    let was : ◌≡◌ {A = ℕ} (cond (free n) 1 0) 1 = cond-true (free n) 1 0 (subst (λ y. free y ≡ true) is f) in
    let now : ◌≡◌ {A = ℕ} (cond (but free x n) 1 0) 0 = cond-false (but free x n) 1 0 (subst (λ y. but free x y ≡ false) is (but_same free x)) in
    omega arith)
    (cases_lt x n)

-- A walk among free berths.
data Among (es : List Edge) (free : ℕ → Bool) : ℕ → ℕ → ℕ → Type 0 where
  stop : {x : ℕ} → IsBerth x → free x ≡ true → Among es free x x 0
  next : {x y z m n : ℕ} → free x ≡ true → Step es x y m → Among es free y z n → Among es free x z (m + n)

among_from : {es : List Edge} {free : ℕ → Bool} {x y n : ℕ} → Among es free x y n → (IsBerth x) × (free x ≡ true)
among_from (stop h f) = (h, f)
among_from (next f s w) = (s.from, f)

among_all : {es : List Edge} {x y n : ℕ} → Walk es x y n → Among es (λ _. true) x y n
among_all (stay h) = stop h refl
among_all (go s w) = next refl s (among_all w)

-- A walk from u to y never comes to x, or from the last time that it is at x it ends there, or leaves x by a step and then
-- never comes to x.
data Last (es : List Edge) (free : ℕ → Bool) (x u y n : ℕ) : Type 0 where
  never : Among es (but free x) u y n → Last es free x u y n
  ends : x ≡ y → Last es free x u y n
  leaves : {w a b : ℕ} → Step es x w a → Among es (but free x) w y b → a + b ≤ n → Last es free x u y n

last_step : {es : List Edge} {free : ℕ → Bool} {x u v y m n : ℕ} → free u ≡ true → Step es u v m → Last es free x v y n → Last es free x u y (m + n)
last_step {es = es} {free = free} {x = x} {u = u} {v = v} {m = m} {n = n} f s (never w) =
    ⊎_elim
    (λ is. let le : m + n ≤ m + n = omega arith in leaves (subst (λ z. Step es z v m) is s) w le)
    (λ ne. never (next (but_other free x u ne ∙ f) s w))
    (cases_eq u x)
last_step f s (ends e) = ends e
last_step {m = m} {n = n} f s (leaves {a = a} {b = b} t w h) = let le : a + b ≤ m + n = omega arith in leaves t w le

last : {es : List Edge} {free : ℕ → Bool} (x : ℕ) {u y n : ℕ} → Among es free u y n → Last es free x u y n
last {free = free} x (stop {x = u} h f) = ⊎_elim (λ is. ends (sym is)) (λ ne. never (stop h (but_other free x u ne ∙ f))) (cases_eq u x)
last x (next f s w) = last_step f s (last x w)

-- A walk among k free berths can be made one of fewer than k steps: with one edge more it is at most k times the longest.
module _ (es : List Edge) (most : ℕ) (each : NoneLonger most es) where
  abbrev Short : ℕ → ℕ → ℕ → ℕ → Type 0
  Short k x y n = (m : ℕ) × Walk es x y m × (m ≤ n) × (m + most ≤ k * most)

  short_last : (k : ℕ) (free : ℕ → Bool) {x y n : ℕ} → IsBerth x → ((w b : ℕ) → Among es (but free x) w y b → Short k w y b) → Last es free x x y n → Short (suc k) x y n
  short_last k free {x = x} hx less (never w) = absurd (false≢true (sym (but_same free x) ∙ (among_from w).1))
  short_last k free {x = x} hx less (ends e) = (0, subst (λ z. Walk es x z 0) e (stay hx), omega arith, omega (arith, suc-mul k most))
  short_last k free hx less (leaves {w = v} {a = a} {b = b} s w h) =
      let rest = less v b w in
      let here : a ≤ most = omega (arith, each s.place s.listed, s.long) in
      (a + rest.0, go s rest.1, omega (arith, rest.2), omega (arith, rest.3, suc-mul k most))

  short : (k : ℕ) (free : ℕ → Bool) {x y n : ℕ} → count free 32 ≡ k → Among es free x y n → Short k x y n
  short zero free {x = x} c w = let h = among_from w in absurd (omega (arith, count_but free x 32 h.0 h.1))
  short (suc k) free {x = x} c w =
      let h = among_from w in
      let less : count (but free x) 32 ≡ k = omega (arith, count_but free x 32 h.0 h.1) in
      short_last k free h.0 (λ v b. short k (but free x) less) (last x w)

  count_all : count (λ _. true) 32 ≡ 32
  unfolding count
  count_all = refl

  -- Every walk can be made one that is no longer, and at most 31 times the longest edge.
  pub shortened : {x y n : ℕ} → Walk es x y n → (m : ℕ) × Walk es x y m × (m ≤ n) × (m ≤ 31 * most)
  shortened w =
      let s = short 32 (λ _. true) count_all (among_all w) in
      (s.0, s.1, s.2, omega (arith, s.3))
