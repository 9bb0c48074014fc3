use Rattle.std.proofs.Common.{sym, ap, ◌∙◌, arith}
use Rattle.planner.specs.Costs.{past_place}
use Rattle.planner.proofs.HighCosts.{high_found, high_further, high_end}
use Rattle.planner.proofs.pricing.is_high.Goals as goal

pub returns-then-is_past : goal.returns-then-is_past
returns-then-is_past g c =
    sym (high_found (g.V.Rowed.row c.args.cost) c.loop-i.i (sym (c.if-is_past.ensures ∙ ap past_place c.place.ensures))) ∙ c.loop-i.invariant

pub loop-i-preserved : goal.loop-i-preserved
loop-i-preserved g c =
    high_further (g.V.Rowed.row c.args.cost) c.loop-i.i (sym (c.if-is_past.ensures ∙ ap past_place c.place.ensures)) ∙ c.loop-i.invariant

pub returns : goal.returns
returns g c =
    let long = g.V.Rowed.long c.args.cost in
    high_end (g.V.Rowed.row c.args.cost) c.loop-i.i (omega (arith, c.requires.few, c.loop-i-test.false)) c.loop-i.invariant
