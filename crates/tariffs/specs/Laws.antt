-- What holds of every tariff. Assumes nothing.
use Rattle.std.specs.Prelude.{◌≡◌, ℕ, ◌≤◌, List, length, ℤ}
use Rattle.rows.specs.Places.{Small}
use Rattle.tariffs.specs.Charges.{capped}

-- the laws of tariffs whose rows have `count` places, and which answer with these rows for opening a duty, for a link and for coming home
pub record TariffLaws {T : Type 0} (count : ℕ) (opens : T → ℕ → ℕ → List ℤ) (links homes : T → ℕ → List ℤ) : Type 0 where
  -- a row has 1 to 4 places
  pub few_places : (1 ≤ count) × (count ≤ 4)
  pub opens_long : (t : T) (fee cents : ℕ) → length (opens t fee cents) ≡ count
  pub links_long : (t : T) (cents : ℕ) → length (links t cents) ≡ count
  pub homes_long : (t : T) (cents : ℕ) → length (homes t cents) ≡ count
  -- each place lies within ±2,000,000,000
  pub opens_near : (t : T) (fee cents : ℕ) → Small 2000000000 (opens t fee cents)
  pub links_near : (t : T) (cents : ℕ) → Small 2000000000 (links t cents)
  pub homes_near : (t : T) (cents : ℕ) → Small 2000000000 (homes t cents)
  -- a fee or cents above 1,000,000,000 count as that
  pub opens_capped : (t : T) (fee cents : ℕ) → opens t fee cents ≡ opens t (capped fee) (capped cents)
  pub links_capped : (t : T) (cents : ℕ) → links t cents ≡ links t (capped cents)
  pub homes_capped : (t : T) (cents : ℕ) → homes t cents ≡ homes t (capped cents)
