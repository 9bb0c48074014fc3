-- Which list of trips a call leads to, said by its trips and their order alone. Assumes nothing.
use Rattle.std.specs.Prelude.{◌≡◌, ℕ, ◌⊎◌, List, [], ◌∷◌, None, ◌≢◌}
use Rattle.trips.specs.declared.trip.Trip.{Trip}
use Rattle.board.specs.Order.{InOrder}
use Rattle.board.specs.Lists.{without}
use Rattle.board.specs.Refusals.{withdraw_refusal}

-- a trip is one of the trips
abbrev pub Among : Trip → List Trip → Type 0
Among u [] = ⊥
Among u (t ∷ ts) = (t ≡ u) ⊎ Among u ts

-- us are, in board order, the trips of ts and the trip t, and no other
pub record JoinedBy (ts : List Trip) (t : Trip) (us : List Trip) : Type 0 where
  pub ordered : InOrder us
  pub old : (u : Trip) → Among u ts → Among u us
  pub new : Among t us
  pub no_other : (u : Trip) → Among u us → (u ≡ t) ⊎ Among u ts

-- us are, in board order, the trips of ts with another number than n, and no other
pub record RidOf (ts : List Trip) (n : ℕ) (us : List Trip) : Type 0 where
  pub ordered : InOrder us
  pub old : (u : Trip) → Among u ts → (u.number ≢ n) → Among u us
  pub no_other : (u : Trip) → Among u us → Among u ts × (u.number ≢ n)

-- us are the only list of which P holds
abbrev pub Only : (List Trip → Type 0) → List Trip → Type 0
Only P us = P us × ((vs : List Trip) → P vs → vs ≡ us)

-- to withdraw the number n from us is accepted, and leads to ts
abbrev pub Undone : List Trip → ℕ → List Trip → Type 0
Undone us n ts = (withdraw_refusal us n ≡ None) × (without us n ≡ ts)
