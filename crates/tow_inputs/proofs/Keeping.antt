-- That what each admitted record keeps true of the records is true of all that a sheet says. Assumes nothing.
use Rattle.std.proofs.Common.{ℕ, ◌+◌, List, [], ◌∷◌, ◌++◌, Option, sym, subst, ⊎_elim}
use Rattle.faults.specs.declared.fault.Fault.{Fault}
use Rattle.sheet.specs.Rules.{Rules}
use Rattle.sheet.specs.Says.{Admits, Gave, Says}

module _ {R : Type 0} (rules : Rules R) (room : ℕ) (P : List R → Type 0) (none : P []) (each : (line : ℕ) (rs : List R) (ns : List ℕ) (r : R) → Admits rules room line rs ns r → P rs → P (rs ++ r ∷ [])) where
  gave_keeps : (n : ℕ) (ls : List (List ℕ)) (rs qs : List R) → P rs → Gave rules room n rs ls qs → P qs
  gave_keeps n [] rs qs p g = subst P (sym g) p
  gave_keeps n (l ∷ ls) rs qs p g =
      ⊎_elim
      (λ x. gave_keeps (n + 1) ls rs qs p x.1)
      (λ x. gave_keeps (n + 1) ls (rs ++ x.1.0 ∷ []) qs (each n rs x.1.1.ns x.1.0 x.1.1.admits p) x.1.2)
      g

  pub says_keeps : (sheet : List ℕ) (rs : List R) (fault : Option Fault) → Says rules room sheet rs fault → P rs
  says_keeps sheet rs fault h = ⊎_elim (λ x. gave_keeps 1 _ [] rs none x.1.gave) (λ x. subst P (sym x.1) none) h
