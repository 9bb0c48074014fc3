-- The order of rows and what `cmp` and `==` answer at their places, place by place: each says the other. Assumes nothing.
use Rattle.std.proofs.Common.{◌≡◌, Bool, Some, true, false, List, ◌∷◌, ℤ, ◌<ℤ◌, Decides, Ordering, Less, Equal, Greater, sym, refl, ap, ◌∙◌, arith}
use borrow.Author.Differences.{ints}
use Rattle.std.specs.Ordering.{MatchOrdering, ordering_reverse, int_cmp, int_eq, is_lt, is_eq, is_some_and}
use Rattle.std.specs.Cmp.{int_cmp_total}
use Rattle.std.specs.Cmp.Lexicographic.{slice_cmp, slice_partial_cmp, lists_agrees, lists_total, lists_ties, pointwise}
use Rattle.std.specs.Cmp.Rules.{signed_items}
use Rattle.std.proofs.lemmas.Cmp.{int_ranked, same_from_slice_cmp, same_from_slice_cmp_tested}
use Rattle.rows.specs.Places.{below, Standing}
use Rattle.rows.proofs.Firsts.{by_tests}

-- how one place decides, by what `cmp` answers there
ranked_step : (x y : ℤ) (xs ys : List ℤ) (o : Ordering) → MatchOrdering o (x <ℤ y) (x ≡ y) (y <ℤ x) → MatchOrdering o (below (x ∷ xs) (y ∷ ys) ≡ true) (below (x ∷ xs) (y ∷ ys) ≡ below xs ys) (below (x ∷ xs) (y ∷ ys) ≡ false)
ranked_step x y xs ys Less h = by_tests x y (below xs ys) true false (sym (omega (arith, ints))) (sym (omega (arith, ints)))
ranked_step x y xs ys Equal h = by_tests x y (below xs ys) false false (sym (omega (arith, ints))) (sym (omega (arith, ints)))
ranked_step x y xs ys Greater h = by_tests x y (below xs ys) false true (sym (omega (arith, ints))) (sym (omega (arith, ints)))

-- what `<` answers of the places
pub below_from_lt : (xs ys : List ℤ) (r : Bool) → r ≡ is_some_and is_lt (slice_partial_cmp (λ x y. Some (int_cmp x y)) xs ys) → r ≡ below xs ys
below_from_lt = same_from_slice_cmp_tested int_cmp is_lt below refl (λ _ _. refl) (λ _ _. refl) (λ x y xs ys o h. ranked_step x y xs ys o (int_ranked x y o h))

pub lt_is_below : (xs ys : List ℤ) → is_lt (slice_cmp int_cmp xs ys) ≡ below xs ys
lt_is_below xs ys = same_from_slice_cmp int_cmp is_lt below refl (λ _ _. refl) (λ _ _. refl) (λ x y xs ys o h. ranked_step x y xs ys o (int_ranked x y o h)) xs ys (slice_cmp int_cmp xs ys) refl

-- what `cmp` answers the other way round
turned : (xs ys : List ℤ) → slice_cmp int_cmp xs ys ≡ ordering_reverse (slice_cmp int_cmp ys xs)
turned = (lists_total int_cmp_total).antisymm

-- `partial_cmp` answers what `cmp` does
pub partly_is : (xs ys : List ℤ) → slice_partial_cmp (λ x y. Some (int_cmp x y)) xs ys ≡ Some (slice_cmp int_cmp xs ys)
partly_is = lists_agrees (λ _ _. refl)

-- `==` tells whether two rows are the same
pub eq_decides : (xs ys : List ℤ) → Decides (pointwise int_eq xs ys) (xs ≡ ys)
eq_decides = signed_items

by_answer : (xs ys : List ℤ) (o : Ordering) → slice_cmp int_cmp xs ys ≡ o → Standing xs ys o
by_answer xs ys Less e = sym (lt_is_below xs ys) ∙ ap is_lt e
by_answer xs ys Equal e = (signed_items xs ys).0 (lists_ties int_cmp (λ _ _. refl) xs ys ∙ ap is_eq e)
by_answer xs ys Greater e = sym (lt_is_below ys xs) ∙ ap is_lt (turned ys xs ∙ ap ordering_reverse e)

-- the answer of `cmp` says how two rows stand
pub standing_from_cmp : (xs ys : List ℤ) → Standing xs ys (slice_cmp int_cmp xs ys)
standing_from_cmp xs ys = by_answer xs ys (slice_cmp int_cmp xs ys) refl
