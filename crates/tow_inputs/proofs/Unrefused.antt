-- That a tow rule which could not be made from what the two sheets say was wanting memory. Assumes nothing.
use Rattle.std.proofs.Common.{◌≡◌, ℕ, List, Some, None, Err, sym, ap, ◌∙◌}
use Rattle.std.specs.Option.{option_map}
use Rattle.std.proofs.lemmas.Option.{none-some}
use Rattle.tow_sheets.specs.declared.links.Link.{Link}
use Rattle.tow_sheets.specs.declared.charges.Charges.{Charges}
use Rattle.tow_rule.specs.declared.unmade.Unmade.{Unmade}
use Rattle.tow_rule.specs.declared.unmade.Unmade.TheVariants.{Refused, NoMemory}
use Rattle.tow_rule.specs.declared.rule.TowRule.{TowRule}
use Rattle.tow_rule.specs.Refusals.{whole_fault}
use Rattle.tow_rule.specs.Making.{Remade}
use Rattle.tow_inputs.specs.Rules.{Sound, RemadeFrom}
use Rattle.tow_inputs.proofs.Accepted.{sheets_accepted}

module _ (charges links : List ℕ) (room : ℕ) (c : Charges) (rs : List Link) (sound : Sound charges links room c rs) (old new : TowRule) where
  pub only_memory : (e : Unmade) → Remade old rs c.out c.home (Err e) new → RemadeFrom charges links room old (Err e) new
  only_memory (Refused f) made =
      let none : None ≡ Some f = sym (ap (option_map whole_fault) (sheets_accepted charges links c room rs None sound.charged sound.reads)) ∙ made.0 in
      absurd (none-some f none)
  only_memory NoMemory made = ((c, rs, sound), made.1)
