use Rattle.outcomes.specs.Passes.{Priced}
use Rattle.planner.proofs.pricing.write_prices.Given as goal

-- the prices so far are written
abbrev pub invariant-loop-i : goal.invariant-loop-i
invariant-loop-i g l = Priced g.V.Rowed.row l.prices.coming.now l.prices.leaving.now l.i l.written
