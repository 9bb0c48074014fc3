-- Where the records of a sheet go. Assumes nothing.
use Rattle.std.specs.Prelude.{◌≡◌, ℕ, List, [], ◌∷◌, ◌++◌, length, drop, Ok, Err, Result}
use Rattle.faults.specs.declared.fault.Fault.{Fault}

-- a place for records: those that it took, what stands past them, how many it has room for, and the name of the table that it writes to, if it does
pub record Space (R : Type 0) : Type 0 where
  pub kept : List R
  pub rest : List R
  pub room : ℕ
  pub lent : ℕ

module _ {R : Type 0} where
  -- the space v with the records rs more, each in place of what stood there
  abbrev pub with_all : Space R → List R → Space R
  with_all v rs = record { kept = v.kept ++ rs; rest = drop (length rs) v.rest; room = v.room; lent = v.lent }

  -- what becomes of the space v and is answered where a line gives a record or is refused: w is the space then
  abbrev pub Takes : {U : Type 0} → Result R Fault → Space R → Result U Fault → Space R → Type 0
  Takes (Ok r) v (Ok done) w = w ≡ with_all v (r ∷ [])
  Takes (Err f) v (Err g) w = (g ≡ f) × (w ≡ v)
  Takes (Ok r) v (Err g) w = ⊥
  Takes (Err f) v (Ok done) w = ⊥
