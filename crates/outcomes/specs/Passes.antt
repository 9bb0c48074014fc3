-- What the last passes over the prices leave. Assumes nothing.
use Rattle.std.specs.Prelude.{◌≡◌, ℕ, ◌*◌, ◌<◌, List, ℤ, ◌+ℤ◌}
use Rattle.rows.specs.Places.{weight}
use Rattle.duties.specs.Duties.{wholes, sum_over, below as upto}
use Rattle.matchings.specs.Tables.{at_z}
use Rattle.matchings.specs.Rowed.{weights, PlacesNear}

-- s is what the prices of coming and of leaving the first k trips come to, by its weight
pub record Totalled {V : Type 0} (row : V → List ℤ) (a b : List V) (k : ℕ) (s : V) : Type 0 where
  pub sum : weight (row s) ≡ sum_over wholes (λ i. at_z (weights row a) i +ℤ at_z (weights row b) i) (upto k)
  pub near : PlacesNear (k * 64024000000000) (row s)

-- the first k prices are those of coming and of leaving together, by their weights
pub record Priced {V : Type 0} (row : V → List ℤ) (a b : List V) (k : ℕ) (prices : List V) : Type 0 where
  pub each : (i : ℕ) → i < k → at_z (weights row prices) i ≡ (at_z (weights row a) i +ℤ at_z (weights row b) i)
