-- Laying each edge of a list in turn gives the least lengths of single steps. Assumes nothing.
use Rattle.std.proofs.Common.{◌≡◌, ℕ, ◌+◌, ◌<◌, ◌≤◌, ◌⊎◌, List, length, get_or, Some, None, Option, sym, refl, subst, inl, inr, ⊎_elim, arith}
use Rattle.std.proofs.lemmas.Bool.{cases_eq, cases_lt}
use Rattle.walks.specs.declared.edge.Edge.{Edge}
use Rattle.walks.specs.Walks.{IsBerth, no_edge, Joins, Step, LeastOf}
use Rattle.walks.specs.Tables.{Table, at, shorter, EdgeLaid, Direct}
use Rattle.walks.proofs.Leasts.{least_same, least_more}

both_decided : {P Q : Type 0} → P ⊎ (P → ⊥) → Q ⊎ (Q → ⊥) → (P × Q) ⊎ (P × Q → ⊥)
both_decided (inl p) (inl q) = inl (p, q)
both_decided (inl p) (inr q) = inr (λ h. q h.1)
both_decided (inr p) q = inr (λ h. p h.0)

either_decided : {P Q : Type 0} → P ⊎ (P → ⊥) → Q ⊎ (Q → ⊥) → (P ⊎ Q) ⊎ (P ⊎ Q → ⊥)
either_decided (inl p) q = inl (inl p)
either_decided (inr p) (inl q) = inl (inr q)
either_decided (inr p) (inr q) = inr (λ h. ⊎_elim p q h)

-- Whether an edge can be run from x to y is decided.
pub joins_decided : (e : Edge) (x y : ℕ) → Joins e x y ⊎ (Joins e x y → ⊥)
joins_decided e x y =
    either_decided (both_decided (cases_eq e.left x) (cases_eq e.right y)) (both_decided (cases_eq e.left y) (cases_eq e.right x))

-- A step along one of the first k edges.
pub record StepBelow (es : List Edge) (k x y m : ℕ) : Type 0 where
  pub step : Step es x y m
  pub below : step.place < k

-- The edge at k adds its length wherever it can be run, and nothing elsewhere.
module _ (es : List Edge) (k x y : ℕ) (o : Option ℕ) (l : LeastOf (StepBelow es k x y) o) where
  kept : (m : ℕ) → StepBelow es k x y m → StepBelow es (k + 1) x y m
  kept m s = record { step = s.step; below = omega (arith, s.below) }

  last : (m : ℕ) → StepBelow es (k + 1) x y m → StepBelow es k x y m ⊎ (Joins (get_or es k no_edge) x y × (m ≡ (get_or es k no_edge).length))
  last m s =
      ⊎_elim
      (λ lt. inl (record { step = s.step; below = lt }))
      (λ ge.
      let is : s.step.place ≡ k = omega (arith, s.below) in
      inr (subst (λ p. Joins (get_or es p no_edge) x y) is s.step.joins, sym (subst (λ p. (get_or es p no_edge).length ≡ m) is s.step.long)))
      (cases_lt s.step.place k)

  pub least_joined : IsBerth x → IsBerth y → k < length es → Joins (get_or es k no_edge) x y → LeastOf (StepBelow es (k + 1) x y) (Some (shorter (get_or es k no_edge).length o))
  least_joined hx hy hk j =
      let step : Step es x y (get_or es k no_edge).length = record { from = hx; to = hy; place = k; listed = hk; joins = j; long = refl } in
      least_more (StepBelow es k x y) (StepBelow es (k + 1) x y) (get_or es k no_edge).length o kept (record { step = step; below = omega arith })
      (λ n s. ⊎_elim (λ p. inl p) (λ h. inr h.1) (last n s))
      l

  pub least_apart : (Joins (get_or es k no_edge) x y → ⊥) → LeastOf (StepBelow es (k + 1) x y) o
  least_apart ne = least_same (StepBelow es k x y) (StepBelow es (k + 1) x y) o kept (λ n s. ⊎_elim (λ p. p) (λ h. absurd (ne h.0)) (last n s)) l

-- The table of the least lengths of steps along the first k edges.
abbrev pub Laid : List Edge → ℕ → Table → Type 0
Laid es k t = (x y : ℕ) → IsBerth x → IsBerth y → LeastOf (StepBelow es k x y) (at t x y)

pub laid_none : (es : List Edge) (t : Table) → ((x y : ℕ) → at t x y ≡ None) → Laid es 0 t
laid_none es t none x y hx hy = subst (LeastOf (StepBelow es 0 x y)) (sym (none x y)) (λ n s. absurd (omega (arith, s.below)))

pub laid_more : (es : List Edge) (k : ℕ) (s t : Table) → k < length es → Laid es k s → EdgeLaid (get_or es k no_edge) s t → Laid es (k + 1) t
laid_more es k s t hk l e x y hx hy =
    ⊎_elim
    (λ j. subst (LeastOf (StepBelow es (k + 1) x y)) (sym (e.run x y hx hy j)) (least_joined es k x y (at s x y) (l x y hx hy) hx hy hk j))
    (λ n. subst (LeastOf (StepBelow es (k + 1) x y)) (sym (e.other x y hx hy n)) (least_apart es k x y (at s x y) (l x y hx hy) n))
    (joins_decided (get_or es k no_edge) x y)

pub laid_all : (es : List Edge) (k : ℕ) (t : Table) → length es ≤ k → Laid es k t → Direct es t
unfolding Direct
laid_all es k t h l x y hx hy =
    least_same (StepBelow es k x y) (Step es x y) (at t x y) (λ n s. s.step) (λ n s. record { step = s; below = omega (arith, s.listed) }) (l x y hx hy)
