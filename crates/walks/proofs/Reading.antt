-- What is read between any two numbers is the least length of a walk between them. Assumes nothing.
use Rattle.std.proofs.Common.{ℕ, cond, ltb, List, None, sym, ◌∙◌, subst, ⊎_elim, arith}
use Rattle.std.proofs.lemmas.Bool.{cases_lt, lt-ltb, le-ltb, cond-true, cond-false}
use Rattle.walks.specs.declared.edge.Edge.{Edge}
use Rattle.walks.specs.Walks.{Least}
use Rattle.walks.specs.Tables.{Table, at, length_between, TableOf}
use Rattle.walks.proofs.Existence.{walk_from, walk_to}

pub least_between : (es : List Edge) (t : Table) → TableOf es t → (x y : ℕ) → Least es x y (length_between t x y)
unfolding TableOf
least_between es t table x y =
    ⊎_elim
    (λ hx.
    ⊎_elim
    (λ hy.
    subst (Least es x y)
    (sym (cond-true (ltb x 32) (cond (ltb y 32) (at t x y) None) None (lt-ltb x 32 hx) ∙ cond-true (ltb y 32) (at t x y) None (lt-ltb y 32 hy)))
    (table x y hx hy))
    (λ gy.
    subst (Least es x y)
    (sym (cond-true (ltb x 32) (cond (ltb y 32) (at t x y) None) None (lt-ltb x 32 hx) ∙ cond-false (ltb y 32) (at t x y) None (le-ltb y 32 gy)))
    (λ n w. absurd (let h = walk_to w in omega arith)))
    (cases_lt y 32))
    (λ gx.
    subst (Least es x y)
    (sym (cond-false (ltb x 32) (cond (ltb y 32) (at t x y) None) None (le-ltb x 32 gx)))
    (λ n w. absurd (let h = walk_from w in omega arith)))
    (cases_lt x 32)
