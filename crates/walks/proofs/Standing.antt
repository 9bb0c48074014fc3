-- Length 0 written from each berth to itself. Assumes nothing.
use Rattle.std.proofs.Common.{List, sym, subst}
use Rattle.walks.specs.declared.edge.Edge.{Edge}
use Rattle.walks.specs.Walks.{Step, LeastOf}
use Rattle.walks.specs.Tables.{Table, at, Direct, Stands}
use Rattle.walks.proofs.Relaxing.{Settled, settled_none}

module _ (s t : Table) (h : Stands 32 s t) where
  pub stands_settled : (es : List Edge) → Direct es s → Settled es 0 (at t)
  unfolding Direct
  stands_settled es d = settled_none es (at t) h.home (λ x y hx hy ne. subst (LeastOf (Step es x y)) (sym (h.other x y hx hy ne)) (d x y hx hy))
