-- What a kind of sheet says of its lines. Assumes nothing.
use Rattle.std.specs.Prelude.{ℕ, Bool, List, Option}
use Rattle.faults.specs.declared.refusal.Refusal.{Refusal}
use Rattle.faults.specs.declared.layer.Layer.{Layer}

-- over the records R of a sheet
pub record Rules (R : Type 0) : Type 0 where
  -- the layer of its faults
  pub layer : Layer
  -- whether a line may have so many fields
  pub takes : ℕ → Bool
  -- the record of a line with these numbers, unless one of them is out of range
  pub made : ℕ → List ℕ → Option R
  -- what forbids a record after the records before it
  pub clash : List R → R → Option Refusal
  -- how many records there may be, and must be
  pub most : ℕ
  pub least : ℕ
