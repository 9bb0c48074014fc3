-- What comes of making a tow rule from the two sheets. Assumes nothing.
use Rattle.std.specs.Prelude.{◌≡◌, ℕ, ◌⊎◌, List, Some, None, Ok, Err, Result}
use Rattle.faults.specs.declared.fault.Fault.{Fault}
use Rattle.sheet.specs.Says.{Reads}
use Rattle.tow_sheets.specs.declared.links.Link.{Link}
use Rattle.tow_sheets.specs.declared.charges.Charges.{Charges}
use Rattle.tow_sheets.specs.Links.{link_rules}
use Rattle.tow_sheets.specs.Charges.{Charged}
use Rattle.tow_rule.specs.declared.unmade.Unmade.{Unmade}
use Rattle.tow_rule.specs.declared.unmade.Unmade.TheVariants.{Refused, NoMemory}
use Rattle.tow_rule.specs.declared.rule.TowRule.{TowRule}
use Rattle.tow_rule.specs.Allowed.{LinksAsAllowed}
use Rattle.tow_rule.specs.Making.{MadeFrom}

-- over the bytes of the two sheets, with room for so many links
module _ (charges links : List ℕ) (room : ℕ) where
  -- neither sheet has a fault: they say these charges and these links
  pub record Sound (c : Charges) (rs : List Link) : Type 0 where
    pub charged : Charged charges (Ok c)
    pub reads : Reads link_rules room links rs None

  -- the first fault of the two: that of the charges sheet, or else that of the links sheet
  abbrev pub FirstFault : Fault → Type 0
  FirstFault f = Charged charges (Err f) ⊎ ((c : Charges) × (rs : List Link) × Charged charges (Ok c) × Reads link_rules room links rs (Some f))

  -- a rule that was made from what the two sheets say
  pub record RuleSays (c : Charges) (rule : TowRule) : Type 0 where
    pub records : List Link
    pub sound : Sound c records
    pub made : MadeFrom rule records c.out c.home
    pub allowed : LinksAsAllowed records

  -- a rule made again from the two sheets, or left as it was: at the first fault, or for want of memory where there is none
  abbrev pub RemadeFrom : TowRule → Result Charges Unmade → TowRule → Type 0
  RemadeFrom old (Ok c) new = RuleSays c new
  RemadeFrom old (Err (Refused f)) new = FirstFault f × (new ≡ old)
  RemadeFrom old (Err NoMemory) new = ((c : Charges) × (rs : List Link) × Sound c rs) × (new ≡ old)

-- a rule made again from these charges and links, or left as it was: right for whatever two sheets say just these
abbrev pub InForce : Charges → List Link → TowRule → Result Charges Unmade → TowRule → Type 0
InForce c rs old r new = (charges links : List ℕ) (room : ℕ) → Sound charges links room c rs → RemadeFrom charges links room old r new
