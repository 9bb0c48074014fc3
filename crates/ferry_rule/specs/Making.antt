-- What a ferry rule may be made from. Assumes nothing.
use Rattle.std.specs.Prelude.{◌≡◌, ℕ, Ok, Err, Result}
use Rattle.faults.specs.declared.fault.Fault.{Fault}
use Rattle.faults.specs.declared.refusal.Refusal.TheVariants.{OutOfRange}
use Rattle.faults.specs.declared.layer.Layer.TheVariants.{Planner}
use Rattle.faults.specs.Shown.{fault_at}
use Rattle.chart.specs.declared.finished.FinishedChart.{FinishedChart}
use Rattle.ferry_rule.specs.declared.rule.FerryRule.{FerryRule}
use Rattle.ferry_rule.specs.Ranges.{TermsInRange}

-- what stands in a rule that was made from a chart and terms
pub record MadeFrom (rule : FerryRule) (chart : FinishedChart) (least most factor : ℕ) : Type 0 where
  pub chart_is : rule.chart ≡ chart
  pub least_is : rule.terms.least ≡ least
  pub most_is : rule.terms.most ≡ most
  pub factor_is : rule.terms.factor ≡ factor

-- a rule made again: from terms within their ranges it is made anew, others are refused and leave it as it was
abbrev pub Remade : {U : Type 0} → FerryRule → FinishedChart → ℕ → ℕ → ℕ → Result U Fault → FerryRule → Type 0
Remade old chart least most factor (Ok done) new = TermsInRange least most factor × MadeFrom new chart least most factor
Remade old chart least most factor (Err f) new = (TermsInRange least most factor → ⊥) × (f ≡ fault_at Planner OutOfRange 0) × (new ≡ old)
