-- Pairs that are listed twice, in a list that is gone through from its front. Assumes nothing.
use Rattle.std.proofs.Common.{◌≡◌, true, false, ◌&&◌, List, [], ◌∷◌, ◌++◌, sym, refl, ◌∙◌, ⊎_elim}
use Rattle.std.proofs.lemmas.Bool.{true≢false, or_cases, or_parts, or_from, or_left, or_right}
use Rattle.std.specs.List.{list_any}
use Rattle.std.proofs.lemmas.List.Folds.{list_any-append}
use Rattle.tow_sheets.specs.declared.links.Link.{Link}
use Rattle.tow_sheets.specs.Links.{same_pair}
use Rattle.tow_rule.specs.Refusals.{listed_twice}
use Rattle.tow_rule.proofs.Entries.{eqb_flip}

pub same_pair_flip : (k l : Link) → same_pair k l ≡ same_pair l k
same_pair_flip k l i = eqb_flip k.tail l.tail i && eqb_flip k.head l.head i

-- a link of a pair that stands before it
pub twice_here : (ls : List Link) (l : Link) (rest : List Link) → list_any (λ k. same_pair k l) ls ≡ true → listed_twice (ls ++ l ∷ rest) ≡ true
twice_here [] l rest h = absurd (true≢false (sym h))
twice_here (x ∷ ls) l rest h =
    let again = list_any-append (λ k. same_pair k x) ls (l ∷ rest) in
    ⊎_elim
    (λ same. or_left _ _ (again ∙ or_right _ _ (or_left _ _ (same_pair_flip l x ∙ same))))
    (λ later. or_right _ _ (twice_here ls l rest later))
    (or_cases (same_pair x l) (list_any (λ k. same_pair k l) ls) h)

-- a link of a pair that does not
pub once_more : (ls : List Link) (l : Link) → listed_twice ls ≡ false → list_any (λ k. same_pair k l) ls ≡ false → listed_twice (ls ++ l ∷ []) ≡ false
once_more [] l h new = refl
once_more (x ∷ ls) l h new =
    let old = or_parts (list_any (λ k. same_pair k x) ls) (listed_twice ls) h in
    let apart = or_parts (same_pair x l) (list_any (λ k. same_pair k l) ls) new in
    or_from _ _
    (list_any-append (λ k. same_pair k x) ls (l ∷ []) ∙ or_from _ _ old.0 (or_from _ _ (same_pair_flip l x ∙ apart.0) refl))
    (once_more ls l old.1 apart.1)
