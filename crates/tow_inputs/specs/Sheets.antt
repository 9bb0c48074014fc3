-- What the two sheets of the tow office say, the charges sheet first. Assumes nothing.
use Rattle.std.specs.Prelude.{◌≡◌, ℕ, ◌⊎◌, List, Some, None, Ok, Err, Result}
use Rattle.faults.specs.declared.fault.Fault.{Fault}
use Rattle.sheet.specs.Says.{Fills}
use Rattle.tow_sheets.specs.declared.links.Link.{Link}
use Rattle.tow_sheets.specs.declared.charges.Charges.{Charges}
use Rattle.tow_sheets.specs.Links.{link_rules}
use Rattle.tow_sheets.specs.Charges.{Charged}
use Rattle.tow_inputs.specs.declared.sound.TowSheets.{TowSheets}

-- neither sheet has a fault: the charges are the one record of the charges sheet, and the first entries of the table are the records of the links sheet, all others being as they were
pub record BothSay (charges links : List ℕ) (before : List Link) (s : TowSheets) (after : List Link) : Type 0 where
  pub charged : Charged charges (Ok s.charges)
  pub filled : Fills link_rules links before s.links None after

-- the charges sheet has none and the links sheet has this fault: the records before it stand in the table
pub record LinksAmiss (charges links : List ℕ) (before : List Link) (f : Fault) (after : List Link) : Type 0 where
  pub sums : Charges
  pub charged : Charged charges (Ok sums)
  pub count : ℕ
  pub filled : Fills link_rules links before count (Some f) after

-- what the two sheets say of charges and links, or the first fault: that of the charges sheet, which leaves the table as it was, or else that of the links sheet
abbrev pub SheetsSay : List ℕ → List ℕ → List Link → Result TowSheets Fault → List Link → Type 0
SheetsSay charges links before (Ok s) after = BothSay charges links before s after
SheetsSay charges links before (Err f) after = (Charged charges (Err f) × (after ≡ before)) ⊎ LinksAmiss charges links before f after
