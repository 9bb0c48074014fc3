-- Which terms a ferry rule may have. Assumes nothing.
use Rattle.std.specs.Prelude.{ℕ, ◌≤◌}

-- the terms are within their ranges: least 0 to 600, most from least to 10,080, factor at most 10,000
pub record TermsInRange (least most factor : ℕ) : Type 0 where
  pub least_bound : least ≤ 600
  pub in_order : least ≤ most
  pub most_bound : most ≤ 10080
  pub factor_bound : factor ≤ 10000
