-- A rule made from what the two sheets say gives the tow office's terms.
use Rattle.std.proofs.Common.{◌≡◌, ℕ, List, subst, inr, ◌∙◌}
use Rattle.rows.specs.declared.row.Row.{Row}
use Rattle.tow_sheets.specs.declared.charges.Charges.{Charges}
use Rattle.tow_rule.specs.declared.rule.TowRule.{TowRule}
use Rattle.tow_inputs.specs.Rules.{RuleSays}
use Rattle.plans.specs.Terms.{Terms}
use Rattle.tape_report.specs.Prints.{TapePrints}
use Rattle.tow_report.specs.Tows.{terms_of, tow_terms, TowPrints}

-- the terms of a tow rule under a cap
abbrev terms_by : TowRule → ℕ → ℕ → Terms
terms_by rule cap fee = terms_of rule.yard rule.listed.links.now cap fee

module _ (charges links : List ℕ) (sums : Charges) (rule : TowRule) (says : RuleSays charges links 2000 sums rule) (below : TowRule) (same : below ≡ rule) (cap : ℕ) (crew : cap ≡ 480) where
  same_terms : terms_by below cap sums.fee ≡ tow_terms sums says.records
  same_terms =
      (λ i. terms_by (same i) (crew i) sums.fee) ∙ (λ i. terms_of (record { out = says.made.out_is i; home = says.made.home_is i }) (says.made.links_are i) 480 sums.fee)

  pub tow_prints : (tape text : List ℕ) → TapePrints {V = Row 1} (λ r. r.places) (terms_by below cap sums.fee) tape text → TowPrints charges links tape text
  tow_prints tape text p =
      inr (record { sums = sums; records = says.records; sound = says.sound; prints = subst (λ x. TapePrints {V = Row 1} (λ r. r.places) x tape text) same_terms p })
