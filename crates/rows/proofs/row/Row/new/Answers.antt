use Rattle.rows.proofs.Weights.{weight_added, weight_opposite, weight_scaled, weight_order}
use Rattle.rows.proofs.Bounds.{held_right, kept_added}
use Rattle.rows.proofs.Firsts.{first_decides}
use Rattle.rows.proofs.Comparisons.{standing_from_cmp, eq_decides}
use Rattle.rows.proofs.row.Row.new.Goals as goal

pub returns-clause-laws : goal.returns-clause-laws
returns-clause-laws g c = record { decides = first_decides; orders = weight_order; adds = weight_added; turns = weight_opposite; scales = weight_scaled; holds = held_right; exact = kept_added; stands = standing_from_cmp; same = eq_decides }
