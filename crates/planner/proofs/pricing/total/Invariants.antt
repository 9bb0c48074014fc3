use Rattle.std.proofs.Common.{length}
use Rattle.outcomes.specs.Passes.{Totalled}
use Rattle.planner.proofs.pricing.total.Given as goal

-- the prices so far are summed
abbrev pub invariant-loop-coming : goal.invariant-loop-coming
invariant-loop-coming g l = Totalled g.V.Rowed.row l.prices.coming.now l.prices.leaving.now (length l.yielded) l.total
