use Rattle.std.proofs.Common.{◌≡◌, drop}
use Rattle.plans.specs.Answers.{cost_high}
use Rattle.planner.proofs.pricing.is_high.Given as goal

-- no place so far is past the most
abbrev pub invariant-loop-i : goal.invariant-loop-i
invariant-loop-i g l = cost_high (drop l.i (g.V.Rowed.row l.cost)) ≡ cost_high (g.V.Rowed.row l.cost)
