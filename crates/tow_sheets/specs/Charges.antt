-- What the charges sheet says. Assumes nothing.
use Rattle.std.specs.Prelude.{ℕ, Bool, cond, ◌&&◌, List, [], ◌∷◌, length, Some, None, Ok, Err, Result, ◌==◌, nat_le, slice_index}
use Rattle.faults.specs.declared.fault.Fault.{Fault}
use Rattle.faults.specs.declared.layer.Layer.TheVariants.{Charges as ChargesLayer}
use Rattle.sheet.specs.Rules.{Rules}
use Rattle.sheet.specs.Says.{Reads}
use Rattle.tow_sheets.specs.declared.charges.Charges.{Charges}

-- the three sums of money are at most 1,000,000,000 cents each
abbrev pub in_range : ℕ → ℕ → ℕ → Bool
in_range out home fee = nat_le out 1000000000 && (nat_le home 1000000000 && nat_le fee 1000000000)

-- the charges of a line with three numbers
abbrev pub charges_of : List ℕ → Charges
charges_of ns = record { out = slice_index ns 0; home = slice_index ns 1; fee = slice_index ns 2 }

-- a line has three fields, each a sum of money, and there is exactly one
abbrev pub charges_rules : Rules Charges
charges_rules = record {
  layer = ChargesLayer;
  takes = λ n. (n == 3);
  made = λ line ns. cond (length ns == 3 && in_range (slice_index ns 0) (slice_index ns 1) (slice_index ns 2)) (Some (charges_of ns)) None;
  clash = λ rs r. None;
  most = 1;
  least = 1;
}

-- the one record of the sheet, or its fault
abbrev pub Charged : List ℕ → Result Charges Fault → Type 0
Charged sheet (Ok c) = Reads charges_rules 1 sheet (c ∷ []) None
Charged sheet (Err f) = (rs : List Charges) × Reads charges_rules 1 sheet rs (Some f)
