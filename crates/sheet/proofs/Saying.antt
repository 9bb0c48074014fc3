-- That what a reader answers is what the sheet says. Assumes nothing.
use Rattle.std.proofs.Common.{◌≡◌, ℕ, suc, ◌+◌, ◌<◌, true, false, ltb, leb, List, [], ◌∷◌, ◌++◌, map, length, get_or, take, is_some, Some, None, Ok, Err, Option, Result, unwrap_or, refl, ap, ◌∙◌, subst, inl, inr, ⊎_elim, arith, MatchResult}
use Rattle.std.proofs.lemmas.Bool.{cond_both, and_parts, and_cases, ltb-true, ltb-false, leb-true, leb-false}
use Rattle.faults.specs.declared.refusal.Refusal.{Refusal}
use Rattle.faults.specs.declared.fault.Fault.{Fault}
use Rattle.tokens.specs.Text.{lines, fields, comment, numeral}
use Rattle.sheet.specs.Rules.{Rules}
use Rattle.sheet.specs.Reading.{numerals, number_in, numbers, unless, kept, admitted, judged, go_on, at_end, read_lines, read_sheet}
use Rattle.sheet.specs.Says.{Numbers, Admits, Rejects, range, full, clash, Gives, Refuses, count, number, record', Gave, Ends, Says}

some_is : (o : Option ℕ) → is_some o ≡ true → o ≡ Some (unwrap_or o 0)
some_is None e = let z : ◌≡◌ {A = ℕ} 0 1 = cc in absurd (omega arith)
some_is (Some n) e = refl

none_is : (o : Option ℕ) → is_some o ≡ false → o ≡ None
none_is None e = refl
none_is (Some n) e = let z : ◌≡◌ {A = ℕ} 0 1 = cc in absurd (omega arith)

all_numbers : (fs : List (List ℕ)) → numerals fs ≡ true → Numbers fs (numbers fs)
all_numbers [] e = refl
all_numbers (f ∷ fs) e =
    let p = and_parts (is_some (numeral f)) (numerals fs) e in
    ap (λ o. o ∷ map numeral fs) (some_is (numeral f) p.0) ∙ ap (λ os. Some (number_in f) ∷ os) (all_numbers fs p.1)

one_not : (fs : List (List ℕ)) → numerals fs ≡ false → (k : ℕ) × (k < length fs) × (numeral (get_or fs k []) ≡ None)
one_not [] e = let z : ◌≡◌ {A = ℕ} 0 1 = cc in absurd (omega arith)
one_not (f ∷ fs) e =
    ⊎_elim
    (λ h. (0, omega arith, none_is (numeral f) h))
    (λ h. let r = one_not fs h in (suc r.0, omega (arith, r.1), r.2))
    (and_cases (is_some (numeral f)) (numerals fs) e)

module _ {R : Type 0} (rules : Rules R) (room : ℕ) where
  module _ (line : ℕ) (rs : List R) where
    module _ (ns : List ℕ) where
      abbrev Taken : Result R Fault → Type 0
      Taken o = MatchResult o (Admits rules room line rs ns) (Rejects rules room line rs ns)

      unless_taken : (r : R) (o : Option Refusal) → rules.made line ns ≡ Some r → length rs < room → rules.clash rs r ≡ o → Taken (unless rules room o line r)
      unless_taken r None is few e = record { is = is; few = few; free = e }
      unless_taken r (Some f) is few e = clash r f is few e

      kept_taken : (o : Option R) → rules.made line ns ≡ o → Taken (kept rules room o line rs)
      kept_taken None e = range e
      kept_taken (Some r) e = cond_both (ltb (length rs) room) _ _ Taken (λ t. unless_taken r _ e (ltb-true _ _ t) refl) (λ t. full r e (ltb-false _ _ t))

      pub admitted_taken : Taken (admitted rules room line rs ns)
      admitted_taken = kept_taken (rules.made line ns) refl

    module _ (fs : List (List ℕ)) where
      abbrev Told : Result R Fault → Type 0
      Told o = MatchResult o (Gives rules room line rs fs) (Refuses rules room line rs fs)

      numbers_told : (ns : List ℕ) (o : Result R Fault) → rules.takes (length fs) ≡ true → Numbers fs ns → Taken ns o → Told o
      numbers_told ns (Ok r) w d t = record { ns = ns; count = w; numbers = d; admits = t }
      numbers_told ns (Err f) w d t = record' ns f w d t

      judged_told : Told (judged rules room line rs fs)
      judged_told =
          cond_both (rules.takes (length fs)) _ _ Told
          (λ w. cond_both (numerals fs) _ _ Told
          (λ d. numbers_told (numbers fs) _ w (all_numbers fs d) (admitted_taken (numbers fs)))
          (λ d. let o = one_not fs d in number o.0 w o.1 o.2))
          (λ w. count w)

  ends_suc : (n : ℕ) (l : List ℕ) (ls : List (List ℕ)) (k : ℕ) (qs : List R) (fault : Option Fault) → Ends rules room (n + 1) ls k qs fault → Ends rules room n (l ∷ ls) (suc k) qs fault
  ends_suc n l ls k qs None h = (ap suc h.0, h.1)
  ends_suc n l ls k qs (Some f) h =
      ⊎_elim
      (λ a. inl (ap suc a.0, a.1, a.2))
      (λ a.
      let e : n + 1 + k ≡ n + suc k = omega arith in
      inr (omega (arith, a.0), a.1, subst (λ m. Refuses rules room m qs (fields (get_or ls k [])) f) e a.2))
      h

  -- what the lines from line n on say after the records rs
  record From (n : ℕ) (rs : List R) (ls : List (List ℕ)) (p : List R × Option Fault) : Type 0 where
    k : ℕ
    gave : Gave rules room n rs (take k ls) p.0
    ends : Ends rules room n ls k p.0 p.1

  from_end : (n : ℕ) (rs : List R) → From n rs [] (at_end rules room rs)
  from_end n rs =
      cond_both (ltb (length rs) rules.least) _ _ (λ o. From n rs [] (rs, o))
      (λ t. record { k = 0; gave = refl; ends = inl (refl, ltb-true _ _ t, refl) })
      (λ t. record { k = 0; gave = refl; ends = (refl, ltb-false _ _ t) })

  module _ (n : ℕ) (rs : List R) (l : List ℕ) (ls : List (List ℕ)) where
    from_skip : (p : List R × Option Fault) → comment l ≡ true → From (n + 1) rs ls p → From n rs (l ∷ ls) p
    from_skip p c h = record { k = suc h.k; gave = inl (c, h.gave); ends = ends_suc n l ls h.k p.0 p.1 h.ends }

    from_line : (o : Result R Fault) (later : List R → List R × Option Fault) → comment l ≡ false → Told n rs (fields l) o → ((qs : List R) → From (n + 1) qs ls (later qs)) → From n rs (l ∷ ls) (go_on rules room o rs later)
    from_line (Ok r) later c t h =
        let i = h (rs ++ r ∷ []) in
        record { k = suc i.k; gave = inr (c, (r, t, i.gave)); ends = ends_suc n l ls i.k (later (rs ++ r ∷ [])).0 (later (rs ++ r ∷ [])).1 i.ends }
    from_line (Err f) later c t h =
        let e : n ≡ n + 0 = omega arith in
        record { k = 0; gave = refl; ends = inr (omega arith, c, subst (λ m. Refuses rules room m rs (fields l) f) e t) }

  from_lines : (ls : List (List ℕ)) (n : ℕ) (rs : List R) → From n rs ls (read_lines rules room n rs ls)
  from_lines [] n rs = from_end n rs
  from_lines (l ∷ ls) n rs =
      cond_both (comment l) _ _ (From n rs (l ∷ ls))
      (λ c. from_skip n rs l ls _ c (from_lines ls (n + 1) rs))
      (λ c. from_line n rs l ls (judged rules room n rs (fields l)) (λ qs. read_lines rules room (n + 1) qs ls) c (judged_told n rs (fields l)) (λ qs. from_lines ls (n + 1) qs))

  pub sheet_says : (sheet : List ℕ) → Says rules room sheet (read_sheet rules room sheet).0 (read_sheet rules room sheet).1
  sheet_says sheet =
      let P : List R × Option Fault → Type 0 = λ p. Says rules room sheet p.0 p.1 in
      cond_both (leb (length sheet) 60000) _ _ P
      (λ t. let h = from_lines (lines sheet) 1 [] in inl (leb-true _ _ t, record { k = h.k; gave = h.gave; ends = h.ends }))
      (λ t. inr (leb-false _ _ t, refl, refl))
