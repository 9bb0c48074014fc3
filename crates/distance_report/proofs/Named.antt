-- The berths that edges name, picked from all. Assumes nothing.
use Rattle.std.proofs.Common.{◌≡◌, ℕ, zero, suc, ◌+◌, cond, List, [], ◌∷◌, ◌++◌, refl, ap, ◌∙◌, arith}
use Rattle.std.specs.List.{filter, range_with_len}
use Rattle.std.proofs.lemmas.List.Elements.{filter-append}
use Rattle.walks.specs.declared.edge.Edge.{Edge}
use Rattle.distance_report.specs.Berths.{berth_is_named, named_below}

range_push : (a n : ℕ) → range_with_len a (suc n) ≡ range_with_len a n ++ (a + n) ∷ []
range_push a zero = let e : a ≡ a + 0 = omega arith in ap (λ m. m ∷ []) e
range_push a (suc n) = let e : a + 1 + n ≡ a + suc n = omega arith in ap (λ l. a ∷ l) (range_push (a + 1) n ∙ ap (λ m. range_with_len (a + 1) n ++ m ∷ []) e)

pub named_is : (es : List Edge) (n : ℕ) → filter (berth_is_named es) (range_with_len 0 n) ≡ named_below es n
named_is es zero = refl
named_is es (suc n) =
    let e : 0 + n ≡ n = omega arith in
    ap (filter (berth_is_named es)) (range_push 0 n ∙ ap (λ m. range_with_len 0 n ++ m ∷ []) e)
    ∙ filter-append (berth_is_named es) (range_with_len 0 n) (n ∷ [])
    ∙ ap (λ l. l ++ cond (berth_is_named es n) (n ∷ []) []) (named_is es n)
