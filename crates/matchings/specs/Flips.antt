-- What a flip does to the links: from a tail without a head back along `via` and `prior`, each tail on the way takes the head by which it was reached. No price stands here. Assumes nothing.
use Rattle.std.specs.Prelude.{◌≡◌, ℕ, ◌+◌, ◌<◌, ◌≤◌, ◌⊎◌, List, ◌≢◌}
use Rattle.matchings.specs.Tables.{at, free}
use Rattle.matchings.specs.Sound.{Matching}

-- From a reached tail with a number up to t, the way back leads to a head that has no tail, or a tail with a lower number.
pub record Climb (n : ℕ) (prior reached via : List ℕ) (t : ℕ) : Type 0 where
  pub source : (k : ℕ) → k < n → (at reached k ≢ 65535) → at via k < n
  pub before : (k : ℕ) → k < n → (at reached k ≢ 65535) → at reached k ≤ t → (at prior (at via k) ≡ 65535) ⊎ (at reached (at prior (at via k)) < at reached k)

-- What a flip has done so far to the links (s, q), which are now (s', q'): each tail has the head that it had, or the one by which it was reached, or none; and no head has lost its tail.
pub record Changed (n : ℕ) (reached via s q s' q' : List ℕ) : Type 0 where
  pub pair : (k : ℕ) → k < n → (at s' k ≢ 65535) → (at s' k ≡ at s k) ⊎ ((at reached k ≢ 65535) × (at s' k ≡ at via k))
  pub head : (j : ℕ) → j < n → at q' j ≡ 65535 → at q j ≡ 65535

-- In the middle of a flip, where the tail i has no head in hand; all others that have none had none.
pub record Flipping (n : ℕ) (reached via s q : List ℕ) (i : ℕ) (s' q' : List ℕ) : Type 0 where
  pub within : i < n
  pub numbered : at reached i < 65535
  pub loose : at s' i ≡ 65535
  pub matching : Matching n s' q'
  pub climb : Climb n q' reached via (at reached i)
  pub changed : Changed n reached via s q s' q'
  pub tail : (k : ℕ) → k < n → (k ≢ i) → at s' k ≡ 65535 → at s k ≡ 65535
  pub count : free q' ≡ free q

-- After a flip: one head more has a tail.
pub record Flipped (n : ℕ) (reached via s q s' q' : List ℕ) : Type 0 where
  pub matching : Matching n s' q'
  pub changed : Changed n reached via s q s' q'
  pub tail : (k : ℕ) → k < n → at s' k ≡ 65535 → at s k ≡ 65535
  pub count : free q' + 1 ≡ free q
