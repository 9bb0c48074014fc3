-- What the fields that a row keeps give, and so what is judged of a line. Assumes nothing.
use Rattle.std.proofs.Common.{◌≡◌, ℕ, ◌≤◌, Bool, true, false, cond, List, [], ◌∷◌, map, length, take, is_some, unwrap_or, ◌&&◌, Some, None, Err, Option, option_map, sym, refl, ap, ◌∙◌, arith}
use Rattle.std.proofs.lemmas.Bool.{cond-true}
use Rattle.std.proofs.lemmas.List.{take_all, length-take, length-map}
use Rattle.faults.specs.declared.refusal.Refusal.TheVariants.{NotANumber}
use Rattle.faults.specs.Shown.{fault_at}
use Rattle.tokens.specs.Text.{numeral}
use Rattle.sheet.specs.Rules.{Rules}
use Rattle.sheet.specs.Reading.{numerals, numbers, admitted, judged}
use Rattle.sheet.specs.Rows.{all_given}

given_step : (o : Option ℕ) (b : Bool) (ns : List ℕ) (os : List (Option ℕ)) → all_given os ≡ cond b (Some ns) None → all_given (o ∷ os) ≡ cond (is_some o && b) (Some (unwrap_or o 0 ∷ ns)) None
given_step None b ns os e = refl
given_step (Some n) true ns os e = ap (option_map (λ l. n ∷ l)) e
given_step (Some n) false ns os e = ap (option_map (λ l. n ∷ l)) e

given_is : (fs : List (List ℕ)) → all_given (map numeral fs) ≡ cond (numerals fs) (Some (numbers fs)) None
given_is [] = refl
given_is (f ∷ fs) = given_step (numeral f) (numerals fs) (numbers fs) (map numeral fs) (given_is fs)

module _ {R : Type 0} (rules : Rules R) (few : (n : ℕ) → rules.takes n ≡ true → n ≤ 8) (room line : ℕ) (rs : List R) (fs : List (List ℕ)) (os : List (Option ℕ)) (holds : os ≡ take 9 (map numeral fs)) (takes : rules.takes (length os) ≡ true) where
  -- no more than eight fields are kept, so these are all
  all_kept : os ≡ map numeral fs
  all_kept =
      let n = few (length os) takes in
      let l = ap length holds ∙ length-take 9 (map numeral fs) in
      holds ∙ take_all 9 (map numeral fs) (omega arith)

  counted : rules.takes (length fs) ≡ true
  counted = ap rules.takes (sym (ap length all_kept ∙ length-map fs numeral)) ∙ takes

  told : (b : Bool) → numerals fs ≡ b → judged rules room line rs fs ≡ cond b (admitted rules room line rs (numbers fs)) (Err (fault_at rules.layer NotANumber line))
  told b e = cond-true (rules.takes (length fs)) _ _ counted ∙ ap (λ t. cond t (admitted rules room line rs (numbers fs)) (Err (fault_at rules.layer NotANumber line))) e

  given : all_given os ≡ cond (numerals fs) (Some (numbers fs)) None
  given = ap all_given all_kept ∙ given_is fs

  some_told : (b : Bool) (ns : List ℕ) → numerals fs ≡ b → cond b (Some (numbers fs)) None ≡ Some ns → judged rules room line rs fs ≡ admitted rules room line rs ns
  some_told true ns e is = let same : numbers fs ≡ ns = cc in told true e ∙ ap (admitted rules room line rs) same
  some_told false ns e is = let z : ◌≡◌ {A = ℕ} 0 1 = cc in absurd (omega arith)

  none_told : (b : Bool) → numerals fs ≡ b → cond b (Some (numbers fs)) None ≡ None → judged rules room line rs fs ≡ Err (fault_at rules.layer NotANumber line)
  none_told true e is = let z : ◌≡◌ {A = ℕ} 0 1 = cc in absurd (omega arith)
  none_told false e is = told false e

  pub judged_given : (ns : List ℕ) → all_given os ≡ Some ns → judged rules room line rs fs ≡ admitted rules room line rs ns
  judged_given ns is = some_told (numerals fs) ns refl (sym given ∙ is)

  pub judged_not : all_given os ≡ None → judged rules room line rs fs ≡ Err (fault_at rules.layer NotANumber line)
  judged_not is = none_told (numerals fs) refl (sym given ∙ is)
