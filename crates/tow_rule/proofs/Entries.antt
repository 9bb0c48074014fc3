-- One more link entered into the index of those before it. Assumes nothing.
use Rattle.std.proofs.Common.{◌≡◌, ℕ, suc, Bool, true, false, cond, ◌&&◌, ◌||◌, eqb, List, [], ◌∷◌, ◌++◌, length, is_some, Some, None, Option, Ordering, sym, refl, ap, ◌∙◌, arith}
use Rattle.std.proofs.lemmas.Bool.{true≢false, eqb-true, and_parts}
use Rattle.std.proofs.lemmas.Bool.Decides.{nat_tests}
use Rattle.std.proofs.lemmas.Option.{none-some}
use Rattle.std.specs.BTreeMap.{BTreeMap, Updates, get}
use Rattle.std.specs.Cmp.{unsigned_tied, tied_then}
use Rattle.std.specs.Ordering.{is_eq, ordering_then, nat_cmp}
use Rattle.std.specs.Option.{option_map, option_to_list}
use Rattle.std.specs.List.{list_any}
use Rattle.tow_sheets.specs.declared.links.Link.{Link}
use Rattle.tow_sheets.specs.Links.{same_pair}
use Rattle.tow_rule.specs.Indexing.{IndexOf}
use Rattle.tow_rule.specs.Listed.{is_of_pair}
use Rattle.tow_rule.specs.Places.{InOrder, place_of}
use Rattle.tow_rule.proofs.Places.{same_option}

pub eqb_flip : (x y : ℕ) → eqb x y ≡ eqb y x
eqb_flip x y = grind (arith, nat_tests)

-- keys are compared by tail and then by head
abbrev by_pair : ℕ × ℕ → ℕ × ℕ → Ordering
by_pair x y = ordering_then (nat_cmp x.0 y.0) (nat_cmp x.1 y.1)

-- keys are tied where both their numbers are equal
tied_pair : (tail head : ℕ) (l : Link) → is_eq (by_pair (l.tail, l.head) (tail, head)) ≡ is_of_pair tail head l
tied_pair tail head l = sym (tied_then (nat_cmp l.tail tail) (nat_cmp l.head head)) ∙ (λ i. unsigned_tied l.tail tail i && unsigned_tied l.head head i)

-- a pair that stands in a list has a place there
some_placed : (t : Bool) (p : Bool) (o : Option ℕ) → p ≡ is_some o → (t || p) ≡ is_some (cond t (Some 0) (option_map suc o))
some_placed true p o e = refl
some_placed false p None e = e
some_placed false p (Some i) e = e

stands_somewhere : (ls : List Link) (tail head : ℕ) → list_any (is_of_pair tail head) ls ≡ is_some (place_of ls tail head)
stands_somewhere [] tail head = refl
stands_somewhere (l ∷ ls) tail head = some_placed (is_of_pair tail head l) (list_any (is_of_pair tail head) ls) (place_of ls tail head) (stands_somewhere ls tail head)

-- where a new pair comes last, only its own place is new
pushed : (s t : Bool) (n : ℕ) (o : Option ℕ) → (t ≡ true → s ≡ false) → cond s (Some 0) (option_map suc (cond t (Some n) o)) ≡ cond t (Some (suc n)) (cond s (Some 0) (option_map suc o))
pushed true true n o apart = absurd (true≢false (apart refl))
pushed true false n o apart = refl
pushed false t n o apart = either t
  where
    either : (t : Bool) → option_map suc (cond t (Some n) o) ≡ cond t (Some (suc n)) (option_map suc o)
    either true = refl
    either false = refl

first_none : (s : Bool) (o : Option ℕ) → cond s (Some 0) (option_map suc o) ≡ None → (s ≡ false) × (o ≡ None)
first_none true o e = absurd (none-some 0 (sym e))
first_none false None e = (refl, refl)
first_none false (Some i) e = absurd (none-some (suc i) (sym e))

same_numbers : (tail head : ℕ) (x l : Link) → is_of_pair tail head l ≡ true → is_of_pair l.tail l.head x ≡ false → is_of_pair tail head x ≡ false
same_numbers tail head x l e h =
    let p = and_parts (eqb l.tail tail) (eqb l.head head) e in
    let a : l.tail ≡ tail = eqb-true l.tail tail p.0 in
    let b : l.head ≡ head = eqb-true l.head head p.1 in
    (λ i. is_of_pair (sym a i) (sym b i) x) ∙ h

place_push : (ls : List Link) (l : Link) (tail head : ℕ) → place_of ls l.tail l.head ≡ None → place_of (ls ++ l ∷ []) tail head ≡ cond (is_of_pair tail head l) (Some (length ls)) (place_of ls tail head)
place_push [] l tail head e = refl
place_push (x ∷ ls) l tail head e =
    let new = first_none (is_of_pair l.tail l.head x) (place_of ls l.tail l.head) e in
    ap (λ o. cond (is_of_pair tail head x) (Some 0) (option_map suc o)) (place_push ls l tail head new.1)
    ∙ pushed (is_of_pair tail head x) (is_of_pair tail head l) (length ls) (place_of ls tail head) (λ t. same_numbers tail head x l t new.0)

-- nothing, where there is not something
nothing : (o : Option ℕ) → is_some o ≡ false → o ≡ None
nothing None e = refl
nothing (Some i) e = absurd (true≢false e)

module _ (m : BTreeMap (ℕ × ℕ) ℕ) (l : Link) (ls : List Link) (index : IndexOf ls m) where
  -- what is found at the link's pair says whether that stands in the list already
  pub found_before : (o : Option ℕ) → o ≡ get by_pair m (l.tail, l.head) → list_any (λ k. same_pair k l) ls ≡ is_some o
  found_before o found = stands_somewhere ls l.tail l.head ∙ ap is_some (sym (found ∙ same_option _ _ (index.1 l.tail l.head)))

  pub one_more : (n : BTreeMap (ℕ × ℕ) ℕ) (place : ℕ) → length ls ≡ place → list_any (λ k. same_pair k l) ls ≡ false → Updates by_pair m n (l.tail, l.head) (Some place) → InOrder n → IndexOf (ls ++ l ∷ []) n
  one_more n place long new put ordered =
      let none = nothing (place_of ls l.tail l.head) (sym (stands_somewhere ls l.tail l.head) ∙ new) in (
        ordered,
        λ tail head. ap option_to_list (put.0 (tail, head) ∙ (λ i. cond (tied_pair tail head l i) (Some (sym long i)) (same_option _ _ (index.1 tail head) i)) ∙ sym (place_push ls l tail head none)),
      )
