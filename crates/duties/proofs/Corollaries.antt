-- Covers: the bound, and the fewest duties.
use Rattle.std.proofs.Common.{◌≡◌, ℕ, ◌<◌, true, List, [], ◌∷◌, length, ℤ, pos, is_some, Some, None, Option, unwrap_or, refl, arith}
use Rattle.std.specs.Option.{option_map}
use Rattle.std.specs.List.{AllByRecursion}
use Rattle.std.proofs.lemmas.Int.{ints}
use Rattle.std.proofs.lemmas.Bool.Decides.{nat_tests}
use Rattle.duties.specs.Duties.{wholes, Net, onward, IsDuty, cost, positions, times, missing, sum_over, Cover}
use Rattle.duties.specs.Theorems.{Prices, price, CoverBound, Fewest}
use Rattle.duties.proofs.Occurs.{alike_sum, times_missing}
use Rattle.duties.proofs.Duality.{bound}
use Rattle.duties.proofs.Shapes.{counted, to_counted, cover_of}

none_missing : (f : ℕ → ℤ) (N : Net ℤ) (ds : List (List ℕ)) → Cover N ds → sum_over wholes f (missing N.trips (positions ds)) ≡ pos 0
none_missing f N ds c = alike_sum f (missing N.trips (positions ds)) [] (λ k. let m = times_missing k N.trips (positions ds) in let e : k < N.trips → times k (positions ds) ≡ 1 = c.every k in grind (arith, nat_tests))

pub cover_bound : CoverBound
cover_bound N a b h ok ds c =
    let least = bound N a b h ok ds c.selection in
    let none = none_missing (price a b) N ds c in
    omega (arith, ints)

-- ---- every duty counts one
pub zero_mapped : {V : Type 0} (o : Option V) → unwrap_or (option_map (λ _. pos 0) o) (pos 0) ≡ pos 0
zero_mapped None = refl
zero_mapped (Some c) = refl

onward_counted : {V : Type 0} (N : Net V) (i : ℕ) (js : List ℕ) → onward wholes (counted N) i js ≡ pos 0
onward_counted N i [] = refl
onward_counted N i (j ∷ js) = let ih = onward_counted N j js in let z = zero_mapped (N.link i j) in omega (arith, ints)

pub cost_counted : {V : Type 0} (N : Net V) (ds : List (List ℕ)) → AllByRecursion (IsDuty N) ds → cost wholes (counted N) ds ≡ pos (length ds)
cost_counted N [] w = refl
cost_counted N ([] ∷ ds) w = absurd w.0
cost_counted N ((i ∷ js) ∷ ds) w = let ih = cost_counted N ds w.1 in let z = onward_counted N i js in omega (arith, ints)

mapped_some : (o : Option ℤ) (c : ℤ) → option_map (λ _. pos 0) o ≡ Some c → (is_some o ≡ true) × (c ≡ pos 0)
mapped_some None c e = absurd (let z : ◌≡◌ {A = ℕ} 0 1 = cc in omega arith)
mapped_some (Some x) c e = (refl, cc)

pub fewest : Fewest
fewest N a b ok d few ds c =
    let prices : Prices (counted N) a b (pos 0) = record {
      open_ok = λ j l. let e = ok.open_ok j l in omega (arith, ints);
      home_ok = ok.home_ok;
      link_ok = λ i j x li lj e. let m = mapped_some (N.link i j) x e in let p = ok.link_ok i j li lj m.0 in omega (arith, ints);
    } in
    let least = cover_bound (counted N) a b (pos 0) prices ds (cover_of N (counted N) refl (to_counted N) ds c) in
    let is = cost_counted N ds c.selection.duties in
    omega (arith, ints)
