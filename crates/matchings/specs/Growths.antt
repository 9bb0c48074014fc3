-- What holds of the links and the tables of values between two growths, within one, and at its end. Assumes nothing.
use Rattle.std.specs.Prelude.{◌≡◌, ℕ, ◌<◌, List, length, ℤ, pos, ◌+ℤ◌, ◌≤ℤ◌, ◌≢◌}
use Rattle.rows.specs.Places.{weight}
use Rattle.duties.specs.Duties.{Net}
use Rattle.matchings.specs.Tables.{at, at_z}
use Rattle.matchings.specs.Rowed.{weighed, weights, places, place, Calm, Ranged}
use Rattle.matchings.specs.Sound.{Sound, Searching, Tree}

-- At all times: the prices, by their weights, bear the links out.
pub record Stands {V : Type 0} (row : V → List ℤ) (net : Net (List ℤ)) (n : ℕ) (next prior : List ℕ) (a b : List V) (h : V) : Type 0 where
  pub a_long : length a ≡ n
  pub b_long : length b ≡ n
  pub sound : Sound (weighed net) n next prior (weights row a) (weights row b) (weight (row h))

-- Between two growths: how far the prices lie from zero, at each place.
pub record Rests {V : Type 0} (row : V → List ℤ) (n : ℕ) (a b : List V) (h : V) : Type 0 where
  pub at_place : (q : ℕ) → Calm n (places row q a) (places row q b) (place q (row h))

-- Within a growth, where t tails are reached.
pub record Growing {V : Type 0} (row : V → List ℤ) (net : Net (List ℤ)) (n : ℕ) (next prior reached via : List ℕ) (a b slack : List V) (h : V) (t : ℕ) : Type 0 where
  pub slack_long : length slack ≡ n
  pub searching : Searching (weighed net) n next prior reached via (weights row a) (weights row b) (weights row slack) t
  pub ranged : (q : ℕ) → Ranged n prior reached (places row q a) (places row q b) (place q (row h)) t

-- The tail i is reached and has no head, and the way back from it is known: a flip may begin.
pub record Ready (net : Net ℤ) (n : ℕ) (next prior reached via : List ℕ) (a b : List ℤ) (i : ℕ) : Type 0 where
  pub within : i < n
  pub loose : at next i ≡ 65535
  pub numbered : at reached i < 65535
  pub tree : Tree net n prior reached via a b 65535

-- A growth that goes no further, since no raise that keeps the hull price below zero reaches another tail.
pub record Halt {V : Type 0} (row : V → List ℤ) (net : Net (List ℤ)) (n : ℕ) (next prior reached via : List ℕ) (a b slack : List V) (h : V) : Type 0 where
  pub t : ℕ
  pub growing : Growing row net n next prior reached via a b slack h t
  pub low : (i : ℕ) → i < n → at reached i ≡ 65535 → (at via i ≢ 65535) → pos 0 ≤ℤ (weight (row h) +ℤ at_z (weights row slack) i)

-- Before the first growth, where nothing is linked: below k, coming to a trip has the price of its opening with the hull price, and leaving it that of its homecoming.
pub record Opened {V : Type 0} (row : V → List ℤ) (net : Net (List ℤ)) (h : V) (k : ℕ) (a b : List V) : Type 0 where
  pub head : (j : ℕ) → j < k → at_z (weights row a) j ≡ (weight (net.opens j) +ℤ weight (row h))
  pub tail : (i : ℕ) → i < k → at_z (weights row b) i ≡ weight (net.homes i)
