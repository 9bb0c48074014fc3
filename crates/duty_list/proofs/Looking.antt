-- Looking through a table for a position, and through the positions for those that duties begin with. Assumes nothing.
use Rattle.std.proofs.Common.{◌≡◌, ℕ, suc, ◌+◌, ◌-◌, Bool, true, false, not, cond, eqb, List, [], ◌∷◌, length, Some, None, Option, sym, refl, ap, ◌∙◌, subst, arith, tests}
use Rattle.std.specs.declared.ops.Range.{Range}
use denote.Param.Members.{Mut}
use denote.Ref.{Bor}
use Rattle.std.specs.Fn.{CalledAt}
use Rattle.std.specs.Option.{IfSome}
use Rattle.std.specs.Iterator.{Yields, YieldsFirst}
use Rattle.std.specs.List.{FoldsTo, filter, range_with_len, list_any}
use Rattle.std.proofs.iter.Yields.{nat_range_steps}
use Rattle.std.proofs.lemmas.Bool.{cond-true, cond-false}
use Rattle.duties.specs.Duties.{times}
use Rattle.duties.specs.Tables.{firsts_from, firsts}
use Rattle.duty_list.specs.Firsts.{firsts_between}

-- no entry of a table is a position exactly where the position stands nowhere in it
pub stands_not : (p : ℕ) (t : List ℕ) → not (list_any (λ x. eqb x p) t) ≡ eqb (times p t) 0
stands_not p [] = refl
stands_not p (x ∷ xs) = let more = stands_not p xs in grind (arith, tests)

-- the positions from p on that duties begin with, whose entries are ss
among : (t : List ℕ) (p : ℕ) (ss : List ℕ) → filter (λ k. eqb (times k t) 0) (range_with_len p (length ss)) ≡ firsts_from t p ss
among t p [] = refl
among t p (s ∷ ss) = ap (λ l. cond (eqb (times p t) 0) (p ∷ l) l) (among t (p + 1) ss)

-- all positions of a table are looked at for its duties
pub all_firsts : (t : List ℕ) → firsts_between t 0 (length t) ≡ firsts t
all_firsts t = let all : length t - 0 ≡ length t = omega arith in ap (λ n. filter (λ k. eqb (times k t) 0) (range_with_len 0 n)) all ∙ among t 0 t

-- the duties that begin in a range
abbrev first_in : List ℕ → Range ℕ → List ℕ
first_in t r = firsts_between t r.start r.end

-- nothing begins in a range that has run out
none_in : (t : List ℕ) (r : Range ℕ) → r.end - r.start ≡ 0 → first_in t r ≡ []
none_in t r none = ap (λ n. filter (λ k. eqb (times k t) 0) (range_with_len r.start n)) none

-- a position that a range gives is looked at, and the later ones are left
next_in : (t : List ℕ) (r s : Range ℕ) (p : ℕ) → nat_range_steps r (Some p) s → first_in t r ≡ cond (eqb (times p t) 0) (p ∷ first_in t s) (first_in t s)
next_in t r s p step =
    let n : ℕ = s.end - s.start in
    let more : r.end - r.start ≡ suc n = omega arith in
    let at : r.start ≡ p = sym step.1.1 in
    let on : r.start + 1 ≡ s.start = sym step.1.2 in
    ap (λ m. filter (λ k. eqb (times k t) 0) (range_with_len r.start m)) more
    ∙ ap (λ q. cond (eqb (times q t) 0) (q ∷ filter (λ k. eqb (times k t) 0) (range_with_len (r.start + 1) n)) (filter (λ k. eqb (times k t) 0) (range_with_len (r.start + 1) n))) at
    ∙ ap (λ a. cond (eqb (times p t) 0) (p ∷ filter (λ k. eqb (times k t) 0) (range_with_len a n)) (filter (λ k. eqb (times k t) 0) (range_with_len a n))) on

-- a test that tells whether a duty begins with a position finds the first such position of a range, and leaves the later ones
module _ (t : List ℕ) {F : Type 0} {test : Mut F (Bor ℕ × Unit {0}) Bool} (f : F) (says : (p : ℕ) (b : Bool) (g : F) → CalledAt test f p b g → (g ≡ f) × (b ≡ eqb (times p t) 0)) where
  passed : (xs : List ℕ) (r s : Range ℕ) (g : F) → Yields nat_range_steps r xs s → FoldsTo (λ q p h. CalledAt test q p false h) f xs g → (g ≡ f) × (first_in t r ≡ first_in t s)
  passed [] r s g y z = (sym z, ap (first_in t) y)
  passed (p ∷ ps) r s g y z =
      let no = says p false z.0 z.1 in
      let more = passed ps y.0 s g y.2 (subst (λ q. FoldsTo (λ q p h. CalledAt test q p false h) q ps g) no.0 z.2) in
      (more.0, next_in t r y.0 p y.1 ∙ cond-false (eqb (times p t) 0) _ _ (sym no.1) ∙ more.1)

  pub found : (ps : List ℕ) (r s u : Range ℕ) (g : F) (o : Option ℕ) → Yields nat_range_steps r ps s → nat_range_steps s o u → FoldsTo (λ q p h. CalledAt test q p false h) f ps g → IfSome o (λ p. (h : F) × CalledAt test g p true h) → YieldsFirst (first_in t) r o u
  found ps r s u g None y step z last =
      let before = passed ps r s g y z in
      (before.1 ∙ none_in t s step.1.0, none_in t u (omega arith))
  found ps r s u g (Some p) y step z last =
      let before = passed ps r s g y z in
      let yes = says p true last.0 (subst (λ q. CalledAt test q p true last.0) before.0 last.1) in
      before.1 ∙ next_in t s u p step ∙ cond-true (eqb (times p t) 0) _ _ (sym yes.1)
