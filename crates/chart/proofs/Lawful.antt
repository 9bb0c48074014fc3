-- That every edge of a chart is within its ranges and joins two berths. Assumes nothing.
use Rattle.std.proofs.Common.{◌≡◌, ℕ, Bool, true, false, cond, not, eqb, List, length, get_or, Some, None, refl, subst, arith}
use Rattle.std.proofs.lemmas.Bool.{and_from, and_parts}
use Rattle.faults.specs.declared.refusal.Refusal.TheVariants.{JoinsItself}
use Rattle.lists.specs.Chosen.{chosen}
use Rattle.walks.specs.declared.edge.Edge.{Edge}
use Rattle.sheet.specs.Says.{Admits}
use Rattle.chart.specs.Edges.{in_range, edge_of, edge_rules, is_lawful}

passed : {X : Type 0} (t : Bool) (x : X) → cond t (Some x) None ≡ None → not t ≡ true
passed true x e = let z : ◌≡◌ {A = ℕ} 0 1 = cc in absurd (omega arith)
passed false x e = refl

pub admitted_lawful : (room line : ℕ) (rs : List Edge) (ns : List ℕ) (e : Edge) → Admits edge_rules room line rs ns e → is_lawful e ≡ true
admitted_lawful room line rs ns e a =
    let t = chosen _ (edge_of line ns) e a.is in
    let r = and_parts (eqb (length ns) 4) (in_range (get_or ns 0 0) (get_or ns 1 0) (get_or ns 2 0) (get_or ns 3 0)) t.0 in
    let P : Edge → Type 0 = λ x. in_range x.number x.left x.right x.length ≡ true in
    and_from _ _ (subst P t.1 r.1) (passed (eqb e.left e.right) JoinsItself a.free)
