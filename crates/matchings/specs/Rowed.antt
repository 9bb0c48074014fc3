-- Tables of values that have a row each, read as whole numbers: by the weights of the rows, or by one place of them; and how far the places lie from zero. Assumes nothing.
use Rattle.std.specs.Prelude.{◌≡◌, ℕ, ◌+◌, ◌*◌, ◌<◌, List, map, length, ℤ, pos, ◌+ℤ◌, ◌-ℤ◌, Some, ◌≢◌, slice_index_or}
use Rattle.std.specs.Option.{option_map}
use Rattle.rows.specs.Places.{Small, Near, weight}
use Rattle.duties.specs.Duties.{Net}
use Rattle.matchings.specs.Tables.{at, at_z, Reached}

-- ---- readings

-- one place of a row; past the last place it is zero
abbrev pub place : ℕ → List ℤ → ℤ
place q r = slice_index_or r q (pos 0)

-- a table of values by the weights of their rows
unfoldable pub weights : {V : Type 0} → (V → List ℤ) → List V → List ℤ
weights row xs = map (λ v. weight (row v)) xs

-- a table of values by one place of their rows
unfoldable pub places : {V : Type 0} → (V → List ℤ) → ℕ → List V → List ℤ
places row q xs = map (λ v. place q (row v)) xs

-- what trips cost, by the weights of the rows
abbrev pub weighed : Net (List ℤ) → Net ℤ
weighed net = record {
  trips = net.trips;
  opens = λ j. weight (net.opens j);
  link = λ i j. option_map weight (net.link i j);
  homes = λ i. weight (net.homes i);
}

-- ---- what trips may cost

-- A row of c places, each within two thousand million.
pub record Fine (c : ℕ) (r : List ℤ) : Type 0 where
  pub long : length r ≡ c
  pub small : Small 2000000000 r

-- Every link goes to a later trip, and each cost is a fine row of c places.
pub record Bounded (c : ℕ) (net : Net (List ℤ)) : Type 0 where
  pub forward : (i j : ℕ) (r : List ℤ) → net.link i j ≡ Some r → i < j
  pub link : (i j : ℕ) (r : List ℤ) → net.link i j ≡ Some r → Fine c r
  pub opens : (j : ℕ) → Fine c (net.opens j)
  pub homes : (i : ℕ) → Fine c (net.homes i)

-- ---- how far places lie from zero

-- Each place of a row is within ±q.
abbrev pub PlacesNear : ℕ → List ℤ → Type 0
PlacesNear q r = (p : ℕ) → Near q (place p r)

-- Each place of each row of a table is within ±q.
pub record TableNear {V : Type 0} (row : V → List ℤ) (q : ℕ) (xs : List V) : Type 0 where
  pub all : (i : ℕ) → i < length xs → (p : ℕ) → Near q (at_z (places row p xs) i)

-- The same of the slacks that count: those of tails that are not reached and have a link to a reached head.
pub record SlacksNear {V : Type 0} (row : V → List ℤ) (q : ℕ) (reached via : List ℕ) (xs : List V) : Type 0 where
  pub all : (i : ℕ) → i < length xs → at reached i ≡ 65535 → (at via i ≢ 65535) → (p : ℕ) → Near q (at_z (places row p xs) i)

-- ---- how far the prices lie from zero, at one place of the rows

-- Between two growths. 32012000000000 is 16006 times, and 16006000000000 is 8003 times, two thousand million.
pub record Calm (n : ℕ) (a b : List ℤ) (h : ℤ) : Type 0 where
  pub head : (j : ℕ) → j < n → Near 32012000000000 (at_z a j)
  pub tail : (i : ℕ) → i < n → Near 32012000000000 (at_z b i)
  pub hull : Near 16006000000000 h

-- Within a growth, where t tails are reached: what is reached moves along with the hull price, and lies near it; all else is as it was between two growths.
pub record Spread (n : ℕ) (prior reached : List ℕ) (a b : List ℤ) (h : ℤ) (t : ℕ) : Type 0 where
  pub head_in : (j : ℕ) → j < n → Reached prior reached j → Near ((2 * t + 1) * 2000000000) (at_z a j -ℤ h)
  pub tail_in : (i : ℕ) → i < n → (at reached i ≢ 65535) → Near ((2 * t + 2) * 2000000000) (at_z b i +ℤ h)
  pub head_out : (j : ℕ) → j < n → (Reached prior reached j → ⊥) → Near 32012000000000 (at_z a j)
  pub tail_out : (i : ℕ) → i < n → at reached i ≡ 65535 → Near 32012000000000 (at_z b i)

-- The same, and the hull price lies near zero: 48018000000000 is 24009 times two thousand million.
pub record Ranged (n : ℕ) (prior reached : List ℕ) (a b : List ℤ) (h : ℤ) (t : ℕ) : Type 0 where
  pub spread : Spread n prior reached a b h t
  pub hull : Near 48018000000000 h
