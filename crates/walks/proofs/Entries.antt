-- What a write to one entry of a table does to each entry. Assumes nothing.
use Rattle.std.proofs.Common.{◌≡◌, ℕ, zero, suc, replicate, None, refl}
use Rattle.walks.specs.Tables.{entry, at}

-- A table of None has no entry.
none_in : (n q : ℕ) → entry (replicate n None) q ≡ None
none_in zero q = refl
none_in (suc n) zero = refl
none_in (suc n) (suc q) = none_in n q

pub none_at : (m n x y : ℕ) → at (replicate m (replicate n None)) x y ≡ None
none_at zero n x y = refl
none_at (suc m) n zero y = none_in n y
none_at (suc m) n (suc x) y = none_at m n x y
