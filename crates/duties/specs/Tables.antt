-- A successor table has an entry for each trip: the position of the trip that is run directly after it, or 65,535 where the duty goes home. Assumes nothing.
use Rattle.std.specs.Prelude.{◌≡◌, ℕ, ◌+◌, ◌<◌, ◌≤◌, cond, List, [], ◌∷◌, map, length, ◌==◌, ◌≢◌, slice_index_or}
use Rattle.duties.specs.Duties.{Net, Links, times}

-- the entry of i
abbrev pub after : List ℕ → ℕ → ℕ
after t i = slice_index_or t i 65535

-- Each entry is 65,535 or a later trip that is linked, and no two trips have the same trip after them.
pub record Table {V : Type 0} (N : Net V) (t : List ℕ) : Type 0 where
  pub small : N.trips ≤ 65535
  pub long : length t ≡ N.trips
  pub later : (i : ℕ) → i < N.trips → (after t i ≢ 65535) → (i < after t i) × (after t i < N.trips) × Links N i (after t i)
  pub apart : (i j : ℕ) → i < j → j < N.trips → after t i ≡ after t j → after t i ≡ 65535

-- js are run after i as the table says, to the end
abbrev pub Runs : List ℕ → ℕ → List ℕ → Type 0
Runs t i [] = after t i ≡ 65535
Runs t i (j ∷ js) = (after t i ≡ j) × Runs t j js

-- a duty is as the table says
abbrev pub Follows : List ℕ → List ℕ → Type 0
Follows t [] = ⊥
Follows t (i ∷ js) = Runs t i js

-- ---- the duties of a table, in board order of their first trips

-- where duties begin, from the position p on, whose entries and those after it are ss: at the trips that stand nowhere in the whole table t
abbrev pub firsts_from : List ℕ → ℕ → List ℕ → List ℕ
firsts_from t p [] = []
firsts_from t p (s ∷ ss) = cond (times p t == 0) (p ∷ firsts_from t (p + 1) ss) (firsts_from t (p + 1) ss)

-- where the duties of a table begin
abbrev pub firsts : List ℕ → List ℕ
firsts t = firsts_from t 0 t

-- the duty that goes on with the trip `want`, among the trips from p on, whose entries are ss: the wanted trip's entry says which trip is wanted next
abbrev pub duty_from : ℕ → List ℕ → ℕ → List ℕ
duty_from p [] want = []
duty_from p (s ∷ ss) want = cond (p == want) (p ∷ duty_from (p + 1) ss s) (duty_from (p + 1) ss want)

-- the duty that begins with a trip
abbrev pub duty_of : List ℕ → ℕ → List ℕ
duty_of t first = duty_from 0 t first

-- the duties of a table, in board order of their first trips
abbrev pub duties_of : List ℕ → List (List ℕ)
duties_of t = map (duty_of t) (firsts t)
