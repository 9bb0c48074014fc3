-- What comes of making a list of links, or a tow rule. Assumes nothing.
use Rattle.std.specs.Prelude.{◌≡◌, ℕ, List, None, Ok, Err, Result}
use Rattle.tow_sheets.specs.declared.links.Link.{Link}
use Rattle.tow_rule.specs.declared.unmade.Unmade.{Unmade}
use Rattle.tow_rule.specs.declared.listed.ListedLinks.{ListedLinks}
use Rattle.tow_rule.specs.declared.rule.TowRule.{TowRule}
use Rattle.tow_rule.specs.Allowed.{LinksAsAllowed}
use Rattle.tow_rule.specs.Refusals.{links_refusal, tow_refusal, Unmakes}

-- a list of links made: of just these links where there is no reason to refuse them, and else not made
abbrev pub Listing : List Link → Result ListedLinks Unmade → Type 0
Listing links (Ok l) = (links_refusal links ≡ None) × (l.links.now ≡ links)
Listing links (Err e) = Unmakes (links_refusal links) e

-- a rule with these links and sums
pub record MadeFrom (rule : TowRule) (links : List Link) (out home : ℕ) : Type 0 where
  pub links_are : rule.listed.links.now ≡ links
  pub out_is : rule.yard.out ≡ out
  pub home_is : rule.yard.home ≡ home

-- a rule made: of these links and sums where there is no reason to refuse them, and then it links trips just as the links allow; and else not made
abbrev pub Made : List Link → ℕ → ℕ → Result TowRule Unmade → Type 0
Made links out home (Ok rule) = (tow_refusal links out home ≡ None) × MadeFrom rule links out home × LinksAsAllowed links
Made links out home (Err e) = Unmakes (tow_refusal links out home) e

-- a rule made again: it is then as one that is made, or as it was
abbrev pub Remade : TowRule → List Link → ℕ → ℕ → Result (Unit {0}) Unmade → TowRule → Type 0
Remade old links out home (Ok done) new = Made links out home (Ok new)
Remade old links out home (Err e) new = Made links out home (Err e) × (new ≡ old)
