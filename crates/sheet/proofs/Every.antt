-- That what holds of each record that can be admitted holds of every record that a sheet says. Assumes nothing.
use Rattle.std.proofs.Common.{◌≡◌, ℕ, ◌+◌, Bool, true, List, [], ◌∷◌, ◌++◌, take, Option, refl, ap, ◌∙◌, ⊎_elim}
use Rattle.std.specs.List.{list_all}
use Rattle.std.proofs.lemmas.Bool.{and_from, and_parts}
use Rattle.faults.specs.declared.fault.Fault.{Fault}
use Rattle.tokens.specs.Text.{lines}
use Rattle.sheet.specs.Rules.{Rules}
use Rattle.sheet.specs.Says.{Admits, Gave, Says}

pub all_push : {R : Type 0} (p : R → Bool) (rs : List R) (r : R) → list_all p rs ≡ true → p r ≡ true → list_all p (rs ++ r ∷ []) ≡ true
all_push p [] r a h = and_from (p r) true h refl
all_push p (q ∷ rs) r a h = let s = and_parts (p q) (list_all p rs) a in and_from (p q) (list_all p (rs ++ r ∷ [])) s.0 (all_push p rs r s.1 h)

module _ {R : Type 0} (rules : Rules R) (room : ℕ) (p : R → Bool) (each : (line : ℕ) (rs : List R) (ns : List ℕ) (r : R) → Admits rules room line rs ns r → p r ≡ true) where
  gave_all : (n : ℕ) (ls : List (List ℕ)) (rs qs : List R) → list_all p rs ≡ true → Gave rules room n rs ls qs → list_all p qs ≡ true
  gave_all n [] rs qs a g = ap (list_all p) g ∙ a
  gave_all n (l ∷ ls) rs qs a g =
      ⊎_elim
      (λ x. gave_all (n + 1) ls rs qs a x.1)
      (λ x. gave_all (n + 1) ls (rs ++ x.1.0 ∷ []) qs (all_push p rs x.1.0 a (each n rs x.1.1.ns x.1.0 x.1.1.admits)) x.1.2)
      g

  pub says_all : (sheet : List ℕ) (rs : List R) (fault : Option Fault) → Says rules room sheet rs fault → list_all p rs ≡ true
  says_all sheet rs fault h =
      ⊎_elim (λ x. gave_all 1 (take x.1.k (lines sheet)) [] rs refl x.1.gave) (λ x. ap (list_all p) x.1) h
