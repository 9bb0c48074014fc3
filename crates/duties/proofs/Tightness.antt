-- Prices that a table meets exactly give the cost of its cover.
use Rattle.std.proofs.Common.{◌≡◌, ℕ, ◌<◌, ◌≤◌, List, [], ◌∷◌, length, ℤ, pos, ◌+ℤ◌, ◌-ℤ◌, ◌*ℤ◌, arith}
use Rattle.std.specs.List.{AllByRecursion}
use Rattle.std.proofs.lemmas.Int.{ints}
use Rattle.std.proofs.lemmas.Bool.Decides.{nat_tests}
use Rattle.duties.specs.Duties.{wholes, Net, onward, duty_cost, cost, positions, times, below, sum_over}
use Rattle.duties.specs.Tables.{after, Table, Runs, Follows}
use Rattle.duties.specs.Traces.{starts, Tight}
use Rattle.duties.specs.Theorems.{price, TightCost}
use Rattle.duties.proofs.Occurs.{sum_append, alike_sum, times_below, times_missing, times_outside, all_from_times, all_front, all_back}

module _ (N : Net ℤ) (t : List ℕ) (a b : ℕ → ℤ) (h : ℤ) (tab : Table N t) (tight : Tight N t a b h) where
  onward_is : (i : ℕ) (js : List ℕ) → Runs t i js → i < N.trips → AllByRecursion (λ k. k < N.trips) js → onward wholes N i js ≡ b i +ℤ sum_over wholes (price a b) js
  onward_is i [] r wi w = let e = tight.home_tight i wi r in omega (arith, ints)
  onward_is i (j ∷ js) r wi w =
      let rest = onward_is j js r.1 w.0 w.1 in
      let mark : after t i ≡ 65535 → ⊥ = λ m. let e = r.0 in let l = w.0 in let s = tab.small in omega arith in
      let e = rw r.0 at (tight.link_tight i wi mark) in
      omega (arith, ints)

  duty_is : (i : ℕ) (js : List ℕ) → Runs t i js → times i t ≡ 0 → i < N.trips → AllByRecursion (λ k. k < N.trips) js → duty_cost wholes N (i ∷ js) ≡ sum_over wholes (price a b) (i ∷ js) -ℤ h
  duty_is i js r first wi w =
      let rest = onward_is i js r wi w in
      let e = tight.open_tight i wi first in
      omega (arith, ints)

  duties_are : (ds : List (List ℕ)) → AllByRecursion (Follows t) ds → AllByRecursion (λ k. times k t ≡ 0) (starts ds) → AllByRecursion (λ k. k < N.trips) (positions ds) → cost wholes N ds ≡ sum_over wholes (price a b) (positions ds) -ℤ pos (length ds) *ℤ h
  duties_are [] f s w = omega (arith, ints)
  duties_are ([] ∷ ds) f s w = absurd f.0
  duties_are ((i ∷ js) ∷ ds) f s w =
      let one = duty_is i js f.0 s.0 w.0 (all_front (λ k. k < N.trips) js (positions ds) w.1) in
      let rest = duties_are ds f.1 s.1 (all_back (λ k. k < N.trips) js (positions ds) w.1) in
      omega (arith, ints, sum_append (price a b) (i ∷ js) (positions ds))

pub tight_cost : TightCost
tight_cost N t a b h tab tight ds tr =
    let n = N.trips in
    let firsts : AllByRecursion (λ k. times k t ≡ 0) (starts ds) = all_from_times (λ k. times k t ≡ 0) (starts ds) (λ k l. let e = tr.begins k in let m = times_missing k n t in grind (arith, nat_tests)) in
    let sel = tr.cover.selection in
    let each = duties_are N t a b h tab tight ds tr.follows firsts sel.within in
    let whole = alike_sum (price a b) (positions ds) (below n) (λ k. let e = times_below k n in let c : k < n → times k (positions ds) ≡ 1 = tr.cover.every k in let o : n ≤ k → times k (positions ds) ≡ 0 = times_outside k n (positions ds) sel.within in grind (arith, nat_tests)) in
    omega (arith, ints)
