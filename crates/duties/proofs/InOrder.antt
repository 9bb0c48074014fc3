-- The duties of a table, in board order of their first trips, are the duties that the table means. Assumes nothing.
use Rattle.std.proofs.Common.{◌≡◌, ℕ, ◌+◌, ◌<◌, ◌≤◌, Bool, true, false, cond, eqb, ltb, leb, List, [], ◌∷◌, map, length, ℤ, pos, ◌+ℤ◌, sym, refl, ap, ◌∙◌, subst, arith}
use Rattle.std.specs.List.{AllByRecursion}
use Rattle.std.proofs.ByRecursion.{All-map}
use Rattle.std.proofs.lemmas.List.{length-map, map-id}
use Rattle.std.proofs.lemmas.Int.{ints}
use Rattle.std.proofs.lemmas.Bool.{eqb-true}
use Rattle.std.proofs.lemmas.Bool.Decides.{nat_tests}
use Rattle.duties.specs.Duties.{wholes, Net, IsDuty, duty_cost, cost, positions, times, missing, sum_over}
use Rattle.duties.specs.Tables.{after, Table, Runs, Follows, firsts_from, firsts, duty_of, duties_of}
use Rattle.duties.specs.Traces.{starts, Traced}
use Rattle.duties.specs.Theorems.{DutiesTraced}
use Rattle.duties.proofs.Occurs.{times_append, Alike, alike_sum, alike_length, times_missing, all_from_times, all_front, all_back}
use Rattle.duties.proofs.Tracing.{cover_from_table}
use Rattle.duties.proofs.Following.{goes_on, past_end, duty_begins}

-- ---- one duty

-- trips that are run as the table says are the duty of the first of them
runs_duty : (N : Net ℤ) (t : List ℕ) → Table N t → (i : ℕ) (js : List ℕ) → Runs t i js → i < N.trips → AllByRecursion (λ k. k < N.trips) js → duty_of t i ≡ i ∷ js
runs_duty N t tab i [] r wi w =
    let l = tab.long in
    let s = tab.small in
    goes_on t i 65535 (omega arith) (omega (arith, r)) ∙ ap (λ k. i ∷ duty_of t k) r ∙ ap (λ ks. i ∷ ks) (past_end t 65535 (omega arith))
runs_duty N t tab i (j ∷ js) r wi w =
    let l = tab.long in
    let s = tab.small in
    let wj = w.0 in
    let is = r.0 in
    let home : after t i ≡ 65535 → ⊥ = λ e. omega arith in
    let on = tab.later i wi home in
    goes_on t i 65535 (omega arith) on.0 ∙ ap (λ k. i ∷ duty_of t k) is ∙ ap (λ ks. i ∷ ks) (runs_duty N t tab j js r.1 w.0 w.1)

-- so duties that are as the table says are those of their first trips
each_duty : (N : Net ℤ) (t : List ℕ) → Table N t → (ds : List (List ℕ)) → AllByRecursion (Follows t) ds → AllByRecursion (λ k. k < N.trips) (positions ds) → ds ≡ map (duty_of t) (starts ds)
each_duty N t tab [] f w = refl
each_duty N t tab ([] ∷ ds) f w = absurd f.0
each_duty N t tab ((i ∷ js) ∷ ds) f w =
    let one = runs_duty N t tab i js f.0 w.0 (all_front (λ k. k < N.trips) js (positions ds) w.1) in
    let rest = each_duty N t tab ds f.1 (all_back (λ k. k < N.trips) js (positions ds) w.1) in
    ap (λ d. d ∷ ds) (sym one) ∙ ap (λ es. duty_of t i ∷ es) rest

-- ---- where duties begin

times_firsts_from : (k : ℕ) (t : List ℕ) (p : ℕ) (ss : List ℕ) → times k (firsts_from t p ss) ≡ cond (eqb (times k t) 0) (cond (leb p k) (cond (ltb k (p + length ss)) 1 0) 0) 0
times_firsts_from k t p [] = grind (arith, nat_tests)
times_firsts_from k t p (s ∷ ss) = let ih = times_firsts_from k t (p + 1) ss in grind (arith, nat_tests)

-- they begin with the trips that stand nowhere in the table
pub firsts_missing : (t : List ℕ) → Alike (firsts t) (missing (length t) t)
firsts_missing t k =
    let f = times_firsts_from k t 0 t in
    let m = times_missing k (length t) t in
    grind (arith, nat_tests)

pub firsts_within : (t : List ℕ) → AllByRecursion (λ k. k < length t) (firsts t)
firsts_within t = all_from_times (λ k. k < length t) (firsts t) (λ k l. let f = times_firsts_from k t 0 t in grind (arith, nat_tests))

few_from : (t : List ℕ) (p : ℕ) (ss : List ℕ) → length (firsts_from t p ss) ≤ length ss
few_from t p [] = omega arith
few_from t p (s ∷ ss) = let ih = few_from t (p + 1) ss in grind (arith, nat_tests)

-- there are no more of them than entries
pub firsts_few : (t : List ℕ) → length (firsts t) ≤ length t
firsts_few t = few_from t 0 t

starts_duties : (t ks : List ℕ) → AllByRecursion (λ k. k < length t) ks → starts (map (duty_of t) ks) ≡ ks
starts_duties t [] w = refl
starts_duties t (k ∷ ks) w =
    let b = duty_begins t k 0 w.0 in
    ap (λ d. starts (d ∷ map (duty_of t) ks)) b.1 ∙ ap (λ l. k ∷ l) (starts_duties t ks w.1)

-- the duties of any table begin with its firsts, in that order
pub starts_firsts : (t : List ℕ) → starts (duties_of t) ≡ firsts t
starts_firsts t = starts_duties t (firsts t) (firsts_within t)

-- ---- duties that begin with the same trips, in another order

times_positions : (k : ℕ) (f : ℕ → List ℕ) (xs : List ℕ) → pos (times k (positions (map f xs))) ≡ sum_over wholes (λ x. pos (times k (f x))) xs
times_positions k f [] = refl
times_positions k f (x ∷ xs) =
    let ih = times_positions k f xs in
    let e = times_append k (f x) (positions (map f xs)) in
    omega (arith, ints)

cost_map : (N : Net ℤ) (f : ℕ → List ℕ) (xs : List ℕ) → cost wholes N (map f xs) ≡ sum_over wholes (λ x. duty_cost wholes N (f x)) xs
cost_map N f [] = refl
cost_map N f (x ∷ xs) = ap (λ c. duty_cost wholes N (f x) +ℤ c) (cost_map N f xs)

all_step : {X : Type 0} (P : X → Type 0) (f : ℕ → X) (k x : ℕ) (b : Bool) → (b ≡ true → k ≡ x) → P (f x) → (b ≡ false → P (f k)) → P (f k)
all_step P f k x true same here later = rw (same refl) here
all_step P f k x false same here later = later refl

all_at : {X : Type 0} (P : X → Type 0) (f : ℕ → X) (xs : List ℕ) (k : ℕ) → AllByRecursion P (map f xs) → 0 < times k xs → P (f k)
all_at P f [] k w h = absurd (omega arith)
all_at P f (x ∷ xs) k w h = all_step P f k x (eqb k x) (eqb-true k x) w.0 (λ e. all_at P f xs k w.1 (grind arith))

all_times : (P : ℕ → Type 0) (xs : List ℕ) (k : ℕ) → AllByRecursion P xs → 0 < times k xs → P k
all_times P xs k w h = all_at P (λ x. x) xs k (subst (AllByRecursion P) (sym (map-id xs)) w) h

module _ (f : ℕ → List ℕ) (xs ys : List ℕ) (alike : Alike xs ys) where
  pub alike_positions : Alike (positions (map f xs)) (positions (map f ys))
  alike_positions k =
      let x = times_positions k f xs in
      let y = times_positions k f ys in
      let s = alike_sum (λ x. pos (times k (f x))) xs ys alike in
      omega (arith, ints)

  pub alike_cost : (N : Net ℤ) → cost wholes N (map f xs) ≡ cost wholes N (map f ys)
  alike_cost N = cost_map N f xs ∙ alike_sum (λ x. duty_cost wholes N (f x)) xs ys alike ∙ sym (cost_map N f ys)

  pub alike_all : (P : List ℕ → Type 0) → AllByRecursion P (map f xs) → AllByRecursion P (map f ys)
  alike_all P w = All-map P f ys (all_from_times (λ k. P (f k)) ys (λ k l. let e = alike k in all_at P f xs k w (omega arith)))

pub duties_traced : DutiesTraced
duties_traced N t tab =
    let n = N.trips in
    let found = cover_from_table N t tab in
    let ds : List (List ℕ) = found.0 in
    let tr : Traced N t ds = found.1 in
    let sel = tr.cover.selection in
    let xs = starts ds in
    let ys = firsts t in
    let begins : Alike ys (missing n t) = subst (λ m. Alike ys (missing m t)) tab.long (firsts_missing t) in
    let alike : Alike xs ys = λ k. tr.begins k ∙ sym (begins k) in
    let f = duty_of t in
    let is : ds ≡ map f xs = each_duty N t tab ds tr.follows sel.within in
    let same : Alike (positions ds) (positions (map f ys)) = λ k. ap (λ es. times k (positions es)) is ∙ alike_positions f xs ys alike k in
    let every : (P : List ℕ → Type 0) → AllByRecursion P ds → AllByRecursion P (map f ys) = λ P w. alike_all f xs ys alike P (subst (AllByRecursion P) is w) in
    record {
      cover = record {
        selection = record {
          duties = every (IsDuty N) sel.duties;
          within = all_from_times (λ k. k < n) (positions (map f ys)) (λ k l. all_times (λ k. k < n) (positions ds) k sel.within (let e = same k in omega arith));
          once = λ k. let e = same k in let o = sel.once k in omega arith;
        };
        every = λ k l. sym (same k) ∙ tr.cover.every k l;
      };
      follows = every (Follows t) tr.follows;
      begins = λ k. ap (times k) (starts_firsts t) ∙ begins k;
      number = length-map ys f ∙ alike_length ys (missing n t) begins;
      costs = sym (alike_cost f xs ys alike N) ∙ ap (cost wholes N) (sym is) ∙ tr.costs;
    }
