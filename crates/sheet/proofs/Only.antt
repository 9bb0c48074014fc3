-- That a sheet says one thing only. Assumes nothing.
use Rattle.std.proofs.Common.{◌≡◌, ℕ, zero, suc, ◌+◌, ◌<◌, true, false, List, [], ◌∷◌, ◌++◌, map, length, get_or, take, is_some, Some, None, Ok, Err, Option, unwrap_or, sym, refl, ap, ◌∙◌, subst, inl, inr, ⊎_elim, arith}
use Rattle.std.proofs.lemmas.Bool.{cond-true, cond-false, lt-ltb, le-ltb, le-leb, lt-leb, and_from, and_left, and_right}
use Rattle.faults.specs.declared.fault.Fault.{Fault}
use Rattle.tokens.specs.Text.{lines, fields, numeral}
use Rattle.sheet.specs.Rules.{Rules}
use Rattle.sheet.specs.Reading.{numerals, numbers, unless, kept, admitted, judged, go_on, read_lines, read_sheet}
use Rattle.sheet.specs.Says.{Numbers, Admits, Rejects, range, full, clash, Gives, Refuses, count, number, record', Gave, Ends, Says, Reads}
use Rattle.sheet.proofs.Saying.{sheet_says}

record Same (fs : List (List ℕ)) (ns : List ℕ) : Type 0 where
  all : numerals fs ≡ true
  are : numbers fs ≡ ns

same_numbers : (fs : List (List ℕ)) (ns : List ℕ) → Numbers fs ns → Same fs ns
same_numbers [] [] e = record { all = refl; are = refl }
same_numbers [] (n ∷ ns) e = let z : ◌≡◌ {A = ℕ} 0 1 = cc in absurd (omega arith)
same_numbers (f ∷ fs) [] e = let z : ◌≡◌ {A = ℕ} 0 1 = cc in absurd (omega arith)
same_numbers (f ∷ fs) (n ∷ ns) e =
    let one : numeral f ≡ Some n = cc in
    let rest : map numeral fs ≡ map Some ns = cc in
    let r = same_numbers fs ns rest in
    record {
      all = and_from _ _ (ap is_some one) r.all;
      are = ap (λ o. unwrap_or o 0 ∷ numbers fs) one ∙ ap (λ l. n ∷ l) r.are;
    }

one_wrong : (fs : List (List ℕ)) (k : ℕ) → k < length fs → numeral (get_or fs k []) ≡ None → numerals fs ≡ false
one_wrong [] k h e = absurd (omega arith)
one_wrong (f ∷ fs) zero h e = and_left _ _ (ap is_some e)
one_wrong (f ∷ fs) (suc k) h e = and_right _ _ (one_wrong fs k (omega arith) e)

module _ {R : Type 0} (rules : Rules R) (room : ℕ) where
  module _ (line : ℕ) (rs : List R) where
    module _ (ns : List ℕ) where
      with_room : (r : R) → rules.made line ns ≡ Some r → length rs < room → admitted rules room line rs ns ≡ unless rules room (rules.clash rs r) line r
      with_room r e few = ap (λ o. kept rules room o line rs) e ∙ cond-true _ _ _ (lt-ltb _ _ few)

      admitted_admits : (r : R) → Admits rules room line rs ns r → admitted rules room line rs ns ≡ Ok r
      admitted_admits r a = with_room r a.is a.few ∙ ap (λ o. unless rules room o line r) a.free

      admitted_rejects : (f : Fault) → Rejects rules room line rs ns f → admitted rules room line rs ns ≡ Err f
      admitted_rejects f (range e) = ap (λ o. kept rules room o line rs) e
      admitted_rejects f (full r e many) = ap (λ o. kept rules room o line rs) e ∙ cond-false _ _ _ (le-ltb _ _ many)
      admitted_rejects f (clash r x e few c) = with_room r e few ∙ ap (λ o. unless rules room o line r) c

    module _ (fs : List (List ℕ)) where
      -- what is left of the tests once the fields are numbers
      tested : (ns : List ℕ) → rules.takes (length fs) ≡ true → Numbers fs ns → judged rules room line rs fs ≡ admitted rules room line rs ns
      tested ns w d =
          let s = same_numbers fs ns d in
          cond-true (rules.takes (length fs)) _ _ w ∙ cond-true (numerals fs) _ _ s.all ∙ ap (admitted rules room line rs) s.are

      judged_gives : (r : R) → Gives rules room line rs fs r → judged rules room line rs fs ≡ Ok r
      judged_gives r g = tested g.ns g.count g.numbers ∙ admitted_admits g.ns r g.admits

      judged_refuses : (f : Fault) → Refuses rules room line rs fs f → judged rules room line rs fs ≡ Err f
      judged_refuses f (count w) = cond-false _ _ _ w
      judged_refuses f (number k w h e) = cond-true _ _ _ w ∙ cond-false _ _ _ (one_wrong fs k h e)
      judged_refuses f (record' ns x w d r) = tested ns w d ∙ admitted_rejects ns f r

  ends_less : (n : ℕ) (l : List ℕ) (ls : List (List ℕ)) (k : ℕ) (qs : List R) (fault : Option Fault) → Ends rules room n (l ∷ ls) (suc k) qs fault → Ends rules room (n + 1) ls k qs fault
  ends_less n l ls k qs None h = (omega (arith, h.0), h.1)
  ends_less n l ls k qs (Some f) h =
      ⊎_elim
      (λ a. inl (omega (arith, a.0), a.1, a.2))
      (λ a. let e : n + suc k ≡ n + 1 + k = omega arith in inr (omega (arith, a.0), a.1, subst (λ m. Refuses rules room m qs (fields (get_or ls k [])) f) e a.2))
      h

  at_end_lem : (n : ℕ) (rs : List R) (fault : Option Fault) (k : ℕ) → Ends rules room n [] k rs fault → read_lines rules room n rs [] ≡ (rs, fault)
  at_end_lem n rs None k h = ap (λ o. (rs, o)) (cond-false _ _ _ (le-ltb _ _ h.1))
  at_end_lem n rs (Some f) k h =
      ⊎_elim (λ a. ap (λ o. (rs, o)) (cond-true _ _ _ (lt-ltb _ _ a.1) ∙ ap Some (sym a.2))) (λ a. absurd (omega (arith, a.0))) h

  at_line : (n : ℕ) (l : List ℕ) (ls : List (List ℕ)) (rs : List R) (fault : Option Fault) → Ends rules room n (l ∷ ls) 0 rs fault → read_lines rules room n rs (l ∷ ls) ≡ (rs, fault)
  at_line n l ls rs None h = absurd (omega (arith, h.0))
  at_line n l ls rs (Some f) h =
      ⊎_elim
      (λ a. absurd (omega (arith, a.0)))
      (λ a.
      let e : n + 0 ≡ n = omega arith in
      cond-false _ _ _ a.1 ∙ ap (λ o. go_on rules room o rs (λ qs. read_lines rules room (n + 1) qs ls)) (judged_refuses n rs (fields l) f (subst (λ m. Refuses rules room m rs (fields l) f) e a.2)))
      h

  only_lines : (ls : List (List ℕ)) (n k : ℕ) (rs qs : List R) (fault : Option Fault) → Gave rules room n rs (take k ls) qs → Ends rules room n ls k qs fault → read_lines rules room n rs ls ≡ (qs, fault)
  only_lines [] n zero rs qs fault g s = ap (λ l. read_lines rules room n l []) (sym g) ∙ at_end_lem n qs fault 0 s
  only_lines [] n (suc k) rs qs fault g s = ap (λ l. read_lines rules room n l []) (sym g) ∙ at_end_lem n qs fault (suc k) s
  only_lines (l ∷ ls) n zero rs qs fault g s = ap (λ x. read_lines rules room n x (l ∷ ls)) (sym g) ∙ at_line n l ls qs fault s
  only_lines (l ∷ ls) n (suc k) rs qs fault g s =
      let t = ends_less n l ls k qs fault s in
      ⊎_elim
      (λ a. cond-true _ _ _ a.0 ∙ only_lines ls (n + 1) k rs qs fault a.1 t)
      (λ a.
      cond-false _ _ _ a.0
      ∙ ap (λ o. go_on rules room o rs (λ ps. read_lines rules room (n + 1) ps ls)) (judged_gives n rs (fields l) a.1.0 a.1.1)
      ∙ only_lines ls (n + 1) k (rs ++ a.1.0 ∷ []) qs fault a.1.2 t)
      g

  says_only : (sheet : List ℕ) (rs : List R) (fault : Option Fault) → Says rules room sheet rs fault → read_sheet rules room sheet ≡ (rs, fault)
  says_only sheet rs fault h =
      ⊎_elim
      (λ a. cond-true _ _ _ (le-leb _ _ a.0) ∙ only_lines (lines sheet) 1 a.1.k [] rs fault a.1.gave a.1.ends)
      (λ a. cond-false _ _ _ (lt-leb _ _ a.0) ∙ ap (λ f. ([], f)) (sym a.2) ∙ ap (λ qs. (qs, fault)) (sym a.1))
      h

  -- what is read is what the sheet says, and it says nothing else
  pub reads : (sheet : List ℕ) (rs : List R) (fault : Option Fault) → read_sheet rules room sheet ≡ (rs, fault) → Reads rules room sheet rs fault
  reads sheet rs fault e =
      let P : List R × Option Fault → Type 0 = λ p. Says rules room sheet p.0 p.1 in
      record {
        says = subst P e (sheet_says rules room sheet);
        only = λ qs other h. let p = sym (says_only sheet qs other h) ∙ e in (ap (λ q. q.0) p, ap (λ q. q.1) p);
      }
