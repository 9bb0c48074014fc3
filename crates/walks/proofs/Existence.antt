-- There is always a least length of a walk, or no walk. Assumes nothing.
use Rattle.std.proofs.Common.{◌≡◌, ℕ, zero, suc, ◌+◌, ◌≤◌, cond, eqb, List, length, get_or, Some, None, Option, sym, refl, subst, ⊎_elim, arith}
use Rattle.std.proofs.lemmas.Bool.{cases_lt, eq-eqb, ne_eqb, cond-true, cond-false}
use Rattle.walks.specs.declared.edge.Edge.{Edge}
use Rattle.walks.specs.Walks.{IsBerth, no_edge, Step, Walk, stay, go, LeastOf, Least}
use Rattle.walks.specs.Tables.{shorter, via}
use Rattle.walks.proofs.Leasts.{least_same}
use Rattle.walks.proofs.Laying.{joins_decided, StepBelow, least_joined, least_apart}
use Rattle.walks.proofs.Relaxing.{Settled, settled_none, settled_more, settled_least}

-- Both ends of a walk are berths.
pub walk_from : {es : List Edge} {x y n : ℕ} → Walk es x y n → IsBerth x
walk_from (stay h) = h
walk_from (go s w) = s.from

pub walk_to : {es : List Edge} {x y n : ℕ} → Walk es x y n → IsBerth y
walk_to (stay h) = h
walk_to (go s w) = walk_to w

module _ (es : List Edge) where
  -- the least length of a step along the first k edges
  step_below : (k x y : ℕ) → k ≤ length es → IsBerth x → IsBerth y → (o : Option ℕ) × LeastOf (StepBelow es k x y) o
  step_below zero x y hk hx hy = (None, λ n s. absurd (omega (arith, s.below)))
  step_below (suc k) x y hk hx hy =
      let below : (o : Option ℕ) × LeastOf (StepBelow es k x y) o = step_below k x y (omega arith) hx hy in
      let is : k + 1 ≡ suc k = omega arith in
      subst (λ n. (o : Option ℕ) × LeastOf (StepBelow es n x y) o) is
      (⊎_elim
      (λ j. (Some (shorter (get_or es k no_edge).length below.0), least_joined es k x y below.0 below.1 hx hy (omega arith) j))
      (λ n. (below.0, least_apart es k x y below.0 below.1 n))
      (joins_decided (get_or es k no_edge) x y))

  least_step : (x y : ℕ) → (o : Option ℕ) × LeastOf (Step es x y) o
  least_step x y =
      ⊎_elim
      (λ hx.
      ⊎_elim
      (λ hy.
      let all = step_below (length es) x y (omega arith) hx hy in
      (all.0, least_same (StepBelow es (length es) x y) (Step es x y) all.0 (λ n s. s.step) (λ n s. record { step = s; below = s.listed }) all.1))
      (λ gy. (None, λ n s. absurd (omega (arith, s.to))))
      (cases_lt y 32))
      (λ gx. (None, λ n s. absurd (omega (arith, s.from))))
      (cases_lt x 32)

  start : ℕ → ℕ → Option ℕ
  start x y = cond (eqb x y) (Some 0) (least_step x y).0

  rounds : (k : ℕ) → k ≤ 32 → (d : ℕ → ℕ → Option ℕ) × Settled es k d
  unfolding start
  rounds zero h = (
    start,
    settled_none es start (λ x hx. cond-true (eqb x x) (Some 0) (least_step x x).0 (eq-eqb x x refl))
        (λ x y hx hy ne. subst (LeastOf (Step es x y)) (sym (cond-false (eqb x y) (Some 0) (least_step x y).0 (ne_eqb x y ne))) (least_step x y).1),
  )
  rounds (suc k) h =
      let was : (d : ℕ → ℕ → Option ℕ) × Settled es k d = rounds k (omega arith) in
      let d = was.0 in
      let now : ℕ → ℕ → Option ℕ = λ x y. via (d x k) (d k y) (d x y) in
      let is : k + 1 ≡ suc k = omega arith in
      (now, subst (λ n. Settled es n now) is (settled_more es k d now (omega arith) was.1 (λ x y hx hy. refl)))

  pub least_there : (x y : ℕ) → (o : Option ℕ) × Least es x y o
  least_there x y =
      let all = rounds 32 (omega arith) in
      ⊎_elim
      (λ hx.
      ⊎_elim
      (λ hy. (all.0 x y, settled_least es all.0 all.1 x y hx hy))
      (λ gy. (None, λ n w. absurd (let h = walk_to w in omega arith)))
      (cases_lt y 32))
      (λ gx. (None, λ n w. absurd (let h = walk_from w in omega arith)))
      (cases_lt x 32)
