-- The duties that a table means, built from the last trip down to the first.
use Rattle.std.proofs.Common.{◌≡◌, ℕ, suc, ◌+◌, ◌<◌, ◌≤◌, Bool, true, false, cond, eqb, ltb, leb, List, [], ◌∷◌, length, get_or, ℤ, pos, ◌+ℤ◌, sym, refl, ap, ◌∙◌, arith}
use Rattle.std.specs.List.{AllByRecursion}
use Rattle.std.proofs.lemmas.Int.{ints}
use Rattle.std.proofs.lemmas.Bool.{eqb-true, eqb-false}
use Rattle.std.proofs.lemmas.Bool.Decides.{nat_tests}
use Rattle.duties.specs.Duties.{wholes, Net, Links, link_cost, onward, IsDuty, cost, positions, times, below, missing, sum_over}
use Rattle.duties.specs.Tables.{after, Table, Follows}
use Rattle.duties.specs.Traces.{starts, step_cost}
use Rattle.duties.specs.Theorems.{CoverFromTable}
use Rattle.duties.proofs.Occurs.{times_append, Alike, alike_sum, alike_length, times_below, times_missing, all_from_times}

-- k goes in front of the duty that begins with s
abbrev attach : ℕ → ℕ → List (List ℕ) → List (List ℕ)
attach k s [] = []
attach k s ([] ∷ ds) = [] ∷ attach k s ds
attach k s ((i ∷ js) ∷ ds) = cond (eqb s i) ((k ∷ i ∷ js) ∷ ds) ((i ∷ js) ∷ attach k s ds)

-- the duties of the trips from k on, of which ss are the entries
abbrev built : ℕ → List ℕ → List (List ℕ)
built k [] = []
built k (s ∷ ss) = cond (eqb s 65535) ((k ∷ []) ∷ built (suc k) ss) (attach k s (built (suc k) ss))

abbrev from : ℕ → List ℕ → List ℕ
from k [] = []
from k (s ∷ ss) = k ∷ from (suc k) ss

-- what duties cost but for their beginnings
abbrev run : Net ℤ → List ℕ → ℤ
run N [] = pos 0
run N (i ∷ js) = onward wholes N i js

abbrev runs : Net ℤ → List (List ℕ) → ℤ
runs N [] = pos 0
runs N (d ∷ ds) = run N d +ℤ runs N ds

cost_parts : (N : Net ℤ) (ds : List (List ℕ)) → cost wholes N ds ≡ runs N ds +ℤ sum_over wholes N.opens (starts ds)
cost_parts N [] = refl
cost_parts N ([] ∷ ds) = let ih = cost_parts N ds in omega (arith, ints)
cost_parts N ((i ∷ js) ∷ ds) = let ih = cost_parts N ds in omega (arith, ints)

length_starts : (N : Net ℤ) (ds : List (List ℕ)) → AllByRecursion (IsDuty N) ds → length (starts ds) ≡ length ds
length_starts N [] w = refl
length_starts N ([] ∷ ds) w = absurd w.0
length_starts N ((i ∷ js) ∷ ds) w = ap suc (length_starts N ds w.1)

starts_stand : (k : ℕ) (ds : List (List ℕ)) → times k (starts ds) ≤ times k (positions ds)
starts_stand k [] = omega arith
starts_stand k ([] ∷ ds) = starts_stand k ds
starts_stand k ((i ∷ js) ∷ ds) = let ih = starts_stand k ds in let e = times_append k js (positions ds) in grind (arith, nat_tests)

-- ---- attach
positions_attach : (j k s : ℕ) (ds : List (List ℕ)) → 0 < times s (starts ds) → times j (positions (attach k s ds)) ≡ times j (k ∷ positions ds)
positions_attach j k s [] h = absurd (omega arith)
positions_attach j k s ([] ∷ ds) h = positions_attach j k s ds h
positions_attach j k s ((i ∷ js) ∷ ds) h =
    let ih : 0 < times s (starts ds) → times j (positions (attach k s ds)) ≡ times j (k ∷ positions ds) = positions_attach j k s ds in
    let one = times_append j js (positions ds) in
    let two = times_append j js (positions (attach k s ds)) in
    grind (arith, nat_tests)

starts_attach : (j k s : ℕ) (ds : List (List ℕ)) → 0 < times s (starts ds) → times j (s ∷ starts (attach k s ds)) ≡ times j (k ∷ starts ds)
starts_attach j k s [] h = absurd (omega arith)
starts_attach j k s ([] ∷ ds) h = starts_attach j k s ds h
starts_attach j k s ((i ∷ js) ∷ ds) h =
    let ih : 0 < times s (starts ds) → times j (s ∷ starts (attach k s ds)) ≡ times j (k ∷ starts ds) = starts_attach j k s ds in
    grind (arith, nat_tests)

runs_step : (N : Net ℤ) (k s i : ℕ) (js : List ℕ) (ds es : List (List ℕ)) (t : Bool) → (t ≡ true → s ≡ i) → (t ≡ false → runs N es ≡ link_cost wholes N k s +ℤ runs N ds)
    → runs N (cond t ((k ∷ i ∷ js) ∷ ds) ((i ∷ js) ∷ es)) ≡ link_cost wholes N k s +ℤ runs N ((i ∷ js) ∷ ds)
runs_step N k s i js ds es true same rest = let e : link_cost wholes N k s ≡ link_cost wholes N k i = ap (link_cost wholes N k) (same refl) in omega (arith, ints)
runs_step N k s i js ds es false same rest = let e = rest refl in omega (arith, ints)

runs_attach : (N : Net ℤ) (k s : ℕ) (ds : List (List ℕ)) → 0 < times s (starts ds) → runs N (attach k s ds) ≡ link_cost wholes N k s +ℤ runs N ds
runs_attach N k s [] h = absurd (omega arith)
runs_attach N k s ([] ∷ ds) h = let ih = runs_attach N k s ds h in omega (arith, ints)
runs_attach N k s ((i ∷ js) ∷ ds) h = runs_step N k s i js ds (attach k s ds) (eqb s i) (eqb-true s i) (λ e. runs_attach N k s ds (grind arith))

-- P of a duty is kept where k goes in front
all_attach : (P : List ℕ → Type 0) (k s : ℕ) (ds : List (List ℕ)) → ((js : List ℕ) → P (s ∷ js) → P (k ∷ s ∷ js)) → AllByRecursion P ds → AllByRecursion P (attach k s ds)
all_attach P k s [] f w = tt
all_attach P k s ([] ∷ ds) f w = (w.0, all_attach P k s ds f w.1)
all_attach P k s ((i ∷ js) ∷ ds) f w = by (eqb s i) refl (all_attach P k s ds f w.1)
  where
    by : (t : Bool) → eqb s i ≡ t → AllByRecursion P (attach k s ds) → AllByRecursion P (cond t ((k ∷ i ∷ js) ∷ ds) ((i ∷ js) ∷ attach k s ds))
    by true e rest = let same = eqb-true s i e in (rw (← same) (f js (rw same w.0)), w.1)
    by false e rest = (w.0, rest)

-- ---- the entries of a table, from k on
times_from : (j k : ℕ) (ss : List ℕ) → times j (from k ss) ≡ cond (leb k j) (cond (ltb j (k + length ss)) 1 0) 0
times_from j k [] = grind (arith, nat_tests)
times_from j k (s ∷ ss) = let ih = times_from j (suc k) ss in grind (arith, nat_tests)

-- an entry that stands nowhere stands no times
nowhere : (s : ℕ) (ss : List ℕ) → ((i : ℕ) → i < length ss → get_or ss i 65535 ≡ s → ⊥) → times s ss ≡ 0
nowhere s [] h = refl
nowhere s (x ∷ xs) h =
    let ih = nowhere s xs (λ i l e. h (suc i) (omega arith) e) in
    let ne : x ≡ s → ⊥ = h 0 (omega arith) in
    grind (arith, nat_tests)

-- what is known of the entry s of k, before the entries ss
pub record Row (N : Net ℤ) (t : List ℕ) (k s : ℕ) (ss : List ℕ) : Type 0 where
  pub is : after t k ≡ s
  pub here : k < N.trips
  pub on : (s ≡ 65535 → ⊥) → (k < s) × (s < N.trips) × Links N k s × (times s ss ≡ 0)

abbrev Rows : Net ℤ → List ℕ → ℕ → List ℕ → Type 0
Rows N t k [] = Unit {0}
Rows N t k (s ∷ ss) = Row N t k s ss × Rows N t (suc k) ss

rows : (N : Net ℤ) (t : List ℕ) (tab : Table N t) (k : ℕ) (ss : List ℕ) → k + length ss ≡ N.trips → ((i : ℕ) → after ss i ≡ after t (k + i)) → Rows N t k ss
rows N t tab k [] len e = tt
rows N t tab k (s ∷ ss) len e =
    let at0 : after t k ≡ s = let z : k ≡ k + 0 = omega arith in ap (after t) z ∙ sym (e 0) in
    let here : k < N.trips = omega arith in
    let rest : (i : ℕ) → after ss i ≡ after t (suc k + i) = λ i. let z : k + suc i ≡ suc k + i = omega arith in e (suc i) ∙ ap (after t) z in
    let on : (s ≡ 65535 → ⊥) → (k < s) × (s < N.trips) × Links N k s × (times s ss ≡ 0) = λ ne.
    let l = rw at0 at (tab.later k here (λ m. ne (sym at0 ∙ m))) in
    (l.0, l.1, l.2, nowhere s ss (λ i w m. ne (sym at0 ∙ tab.apart k (suc k + i) (omega arith) (omega arith) (at0 ∙ sym m ∙ rest i)))) in
    (record { is = at0; here = here; on = on }, rows N t tab (suc k) ss (omega arith) rest)

module _ (N : Net ℤ) (t : List ℕ) where
  -- where a trip is run after k, a duty begins with it
  abbrev There : ℕ → List (List ℕ) → Type 0
  There s ds = (s ≡ 65535 → ⊥) → 0 < times s (starts ds)

  starts_place : (j k s : ℕ) (ds : List (List ℕ)) → There s ds → (j ≡ 65535 → ⊥)
      → (b : Bool) → eqb s 65535 ≡ b → times j (starts (cond b ((k ∷ []) ∷ ds) (attach k s ds))) + times j (s ∷ []) ≡ times j (k ∷ starts ds)
  starts_place j k s ds there ne true e = grind (arith, nat_tests)
  starts_place j k s ds there ne false e = let r = starts_attach j k s ds (there (eqb-false s 65535 e)) in grind (arith, nat_tests)

  there_built : (k s : ℕ) (ss : List ℕ) → k + length (s ∷ ss) ≡ N.trips → Row N t k s ss → ((s ≡ 65535 → ⊥) → times s (starts (built (suc k) ss)) + times s ss ≡ times s (from (suc k) ss)) → There s (built (suc k) ss)
  there_built k s ss len r ih ne =
      let o = r.on ne in
      let e = ih ne in
      let f = times_from s (suc k) ss in
      grind (arith, nat_tests)

  -- each trip from k on begins a duty or stands in the table from k on
  starts_built : (j k : ℕ) (ss : List ℕ) → k + length ss ≡ N.trips → Rows N t k ss → (j ≡ 65535 → ⊥) → times j (starts (built k ss)) + times j ss ≡ times j (from k ss)
  starts_built j k [] len r ne = refl
  starts_built j k (s ∷ ss) len r ne =
      let there = there_built k s ss len r.0 (starts_built s (suc k) ss (omega arith) r.1) in
      let ih = starts_built j (suc k) ss (omega arith) r.1 ne in
      let p = starts_place j k s (built (suc k) ss) there ne (eqb s 65535) refl in
      grind (arith, nat_tests)

  there : (k s : ℕ) (ss : List ℕ) → k + length (s ∷ ss) ≡ N.trips → Rows N t k (s ∷ ss) → There s (built (suc k) ss)
  there k s ss len r = there_built k s ss len r.0 (starts_built s (suc k) ss (omega arith) r.1)

  positions_place : (j k s : ℕ) (ds : List (List ℕ)) → There s ds
      → (b : Bool) → eqb s 65535 ≡ b → times j (positions (cond b ((k ∷ []) ∷ ds) (attach k s ds))) ≡ times j (k ∷ positions ds)
  positions_place j k s ds th true e = refl
  positions_place j k s ds th false e = positions_attach j k s ds (th (eqb-false s 65535 e))

  positions_built : (j k : ℕ) (ss : List ℕ) → k + length ss ≡ N.trips → Rows N t k ss → times j (positions (built k ss)) ≡ times j (from k ss)
  positions_built j k [] len r = refl
  positions_built j k (s ∷ ss) len r =
      let ih = positions_built j (suc k) ss (omega arith) r.1 in
      let p = positions_place j k s (built (suc k) ss) (there k s ss len r) (eqb s 65535) refl in
      grind (arith, nat_tests)

  runs_place : (k s : ℕ) (ds : List (List ℕ)) → There s ds
      → (b : Bool) → eqb s 65535 ≡ b → runs N (cond b ((k ∷ []) ∷ ds) (attach k s ds)) ≡ cond b (N.homes k) (link_cost wholes N k s) +ℤ runs N ds
  runs_place k s ds th true e = refl
  runs_place k s ds th false e = runs_attach N k s ds (th (eqb-false s 65535 e))

  runs_built : (k : ℕ) (ss : List ℕ) → k + length ss ≡ N.trips → Rows N t k ss → runs N (built k ss) ≡ sum_over wholes (step_cost N t) (from k ss)
  runs_built k [] len r = refl
  runs_built k (s ∷ ss) len r =
      let ih = runs_built (suc k) ss (omega arith) r.1 in
      let p = runs_place k s (built (suc k) ss) (there k s ss len r) (eqb s 65535) refl in
      let e : step_cost N t k ≡ cond (eqb s 65535) (N.homes k) (link_cost wholes N k s) = ap (λ x. cond (eqb x 65535) (N.homes k) (link_cost wholes N k x)) r.0.is in
      omega (arith, ints)

  all_place : (P : List ℕ → Type 0) (k s : ℕ) (ds : List (List ℕ)) → (s ≡ 65535 → P (k ∷ [])) → ((s ≡ 65535 → ⊥) → (js : List ℕ) → P (s ∷ js) → P (k ∷ s ∷ js)) → AllByRecursion P ds
      → (b : Bool) → eqb s 65535 ≡ b → AllByRecursion P (cond b ((k ∷ []) ∷ ds) (attach k s ds))
  all_place P k s ds alone front w true e = (alone (eqb-true s 65535 e), w)
  all_place P k s ds alone front w false e = all_attach P k s ds (front (eqb-false s 65535 e)) w

  duties_built : (k : ℕ) (ss : List ℕ) → Rows N t k ss → AllByRecursion (IsDuty N) (built k ss)
  duties_built k [] r = tt
  duties_built k (s ∷ ss) r = all_place (IsDuty N) k s (built (suc k) ss) (λ _. tt) (λ ne js d. ((r.0.on ne).2, d)) (duties_built (suc k) ss r.1) (eqb s 65535) refl

  follows_built : (k : ℕ) (ss : List ℕ) → Rows N t k ss → AllByRecursion (Follows t) (built k ss)
  follows_built k [] r = tt
  follows_built k (s ∷ ss) r = all_place (Follows t) k s (built (suc k) ss) (λ e. r.0.is ∙ e) (λ ne js d. (r.0.is, d)) (follows_built (suc k) ss r.1) (eqb s 65535) refl

begins_at : (k n : ℕ) (ds : List (List ℕ)) (t : List ℕ) → n ≤ 65535 → ((k ≡ 65535 → ⊥) → times k (starts ds) + times k t ≡ times k (below n)) → times k (positions ds) ≡ cond (ltb k n) 1 0
    → times k (starts ds) ≡ times k (missing n t)
begins_at k n ds t small sum ends =
    let l = starts_stand k ds in
    let m = times_missing k n t in
    let b = times_below k n in
    grind (arith, nat_tests)

pub cover_from_table : CoverFromTable
cover_from_table N t tab =
    let n = N.trips in
    let ds = built 0 t in
    let len : 0 + length t ≡ n = omega (arith, tab.long) in
    let rs = rows N t tab 0 t len (λ i. let z : i ≡ 0 + i = omega arith in ap (after t) z) in
    let pos_is : (k : ℕ) → times k (positions ds) ≡ times k (from 0 t) = λ k. positions_built N t k 0 t len rs in
    let from_is : (k : ℕ) → times k (from 0 t) ≡ times k (below n) = λ k. let e = times_from k 0 t in let f = times_below k n in grind (arith, nat_tests) in
    let ends : (k : ℕ) → times k (positions ds) ≡ cond (ltb k n) 1 0 = λ k. pos_is k ∙ from_is k ∙ times_below k n in
    let duties = duties_built N t 0 t rs in
    let within : AllByRecursion (λ k. k < n) (positions ds) = all_from_times (λ k. k < n) (positions ds) (λ k l. let e = ends k in grind (arith, nat_tests)) in
    let once : (k : ℕ) → times k (positions ds) ≤ 1 = λ k. let e = ends k in grind (arith, nat_tests) in
    let every : (k : ℕ) → k < n → times k (positions ds) ≡ 1 = λ k l. let e = ends k in grind (arith, nat_tests) in
    let begins : Alike (starts ds) (missing n t) = λ k. begins_at k n ds t tab.small (λ ne. starts_built N t k 0 t len rs ne ∙ from_is k) (ends k) in
    let number : length ds ≡ length (missing n t) = sym (length_starts N ds duties) ∙ alike_length (starts ds) (missing n t) begins in
    let steps = runs_built N t 0 t len rs ∙ alike_sum (step_cost N t) (from 0 t) (below n) from_is in
    let opens = alike_sum N.opens (starts ds) (missing n t) begins in
    let costs : cost wholes N ds ≡ sum_over wholes (step_cost N t) (below n) +ℤ sum_over wholes N.opens (missing n t) = omega (arith, ints, cost_parts N ds) in (
      ds,
      record {
        cover = record { selection = record { duties = duties; within = within; once = once }; every = every };
        follows = follows_built N t 0 t rs;
        begins = begins;
        number = number;
        costs = costs;
      },
    )
