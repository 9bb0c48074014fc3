-- What duties cost at least, where no step of a duty costs less than the prices that it joins.
use Rattle.std.proofs.Common.{◌≡◌, ℕ, ◌<◌, true, List, [], ◌∷◌, ◌++◌, length, ℤ, pos, ◌+ℤ◌, ◌-ℤ◌, ◌*ℤ◌, ◌≤ℤ◌, is_some, Some, None, Option, unwrap_or, refl, arith}
use Rattle.std.specs.List.{AllByRecursion}
use Rattle.std.proofs.lemmas.Bool.{false≢true}
use Rattle.std.proofs.lemmas.Int.{ints}
use Rattle.duties.specs.Duties.{wholes, Net, Linked, link_cost, onward, IsDuty, duty_cost, cost, positions, below, missing, sum_over}
use Rattle.duties.specs.Theorems.{Prices, price, Bound}
use Rattle.duties.proofs.Occurs.{sum_append, alike_sum, with_missing, all_front, all_back}

-- a link that is there is the one with its cost
some_link : (o : Option ℤ) → is_some o ≡ true → o ≡ Some (unwrap_or o (pos 0))
some_link None h = absurd (false≢true h)
some_link (Some c) h = refl

module _ (N : Net ℤ) (a b : ℕ → ℤ) (h : ℤ) (ok : Prices N a b h) where
  -- from i on: what is left of the prices
  onward_bound : (i : ℕ) (js : List ℕ) → Linked N i js → i < N.trips → AllByRecursion (λ k. k < N.trips) js → (b i +ℤ sum_over wholes (price a b) js) ≤ℤ onward wholes N i js
  onward_bound i [] l wi w = omega (arith, ints, ok.home_ok i wi)
  onward_bound i (j ∷ js) l wi w =
      let step = ok.link_ok i j (link_cost wholes N i j) wi w.0 (some_link (N.link i j) l.0) in
      let rest = onward_bound j js l.1 w.0 w.1 in
      omega (arith, ints)

  pub duty_bound : (d : List ℕ) → IsDuty N d → AllByRecursion (λ k. k < N.trips) d → (sum_over wholes (price a b) d -ℤ h) ≤ℤ duty_cost wholes N d
  duty_bound [] l w = absurd l
  duty_bound (i ∷ js) l w =
      let rest = onward_bound i js l w.0 w.1 in
      let start = ok.open_ok i w.0 in
      omega (arith, ints)

  -- several duties, by the positions that stand in them
  pub duties_bound : (ds : List (List ℕ)) → AllByRecursion (IsDuty N) ds → AllByRecursion (λ k. k < N.trips) (positions ds) → (sum_over wholes (price a b) (positions ds) -ℤ pos (length ds) *ℤ h) ≤ℤ cost wholes N ds
  duties_bound [] l w = omega (arith, ints)
  duties_bound (d ∷ ds) l w =
      let one = duty_bound d l.0 (all_front (λ k. k < N.trips) d (positions ds) w) in
      let rest = duties_bound ds l.1 (all_back (λ k. k < N.trips) d (positions ds) w) in
      omega (arith, ints, sum_append (price a b) d (positions ds))

pub bound : Bound
bound N a b h ok ds s =
    let least = duties_bound N a b h ok ds s.duties s.within in
    let whole = alike_sum (price a b) (positions ds ++ missing N.trips (positions ds)) (below N.trips) (with_missing N.trips (positions ds) s.within s.once) in
    let parts = sum_append (price a b) (positions ds) (missing N.trips (positions ds)) in
    omega (arith, ints)
