-- How many entries of a table are none, after one entry is written and where all are. Assumes nothing.
use Rattle.std.proofs.Common.{◌≡◌, ℕ, suc, ◌+◌, ◌<◌, ◌≢◌, List, [], ◌∷◌, length, set, refl, arith}
use Rattle.std.proofs.lemmas.List.Sums.{sum_by-set, sum_by-cons}
use Rattle.std.proofs.lemmas.Bool.Decides.{nat_tests}
use Rattle.matchings.specs.Tables.{at, lone, free}

-- an entry for another
pub free_same : (xs : List ℕ) (k v : ℕ) → k < length xs → at xs k ≢ 65535 → v ≢ 65535 → free (set xs k v) ≡ free xs
unfolding free
free_same xs k v l f g = let e = sum_by-set lone xs k v 0 l in grind (arith, nat_tests)

-- an entry for none
pub free_less : (xs : List ℕ) (k v : ℕ) → k < length xs → at xs k ≡ 65535 → v ≢ 65535 → free (set xs k v) + 1 ≡ free xs
unfolding free
free_less xs k v l f g = let e = sum_by-set lone xs k v 0 l in grind (arith, nat_tests)

-- where all are none
pub free_all : (xs : List ℕ) → ((k : ℕ) → k < length xs → at xs k ≡ 65535) → free xs ≡ length xs
unfolding free
free_all [] f = refl
free_all (x ∷ xs) f =
    let e = f 0 (omega arith) in
    let r = free_all xs (λ k l. f (suc k) (omega arith)) in
    let c = sum_by-cons lone x xs in
    grind (arith, nat_tests)
