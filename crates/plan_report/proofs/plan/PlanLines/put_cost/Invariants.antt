use Rattle.std.proofs.Common.{◌-◌, length, drop}
use Rattle.printing.proofs.Writing.{Written}
use Rattle.plan_report.specs.Lines.{places_text}
use Rattle.plan_report.proofs.plan.PlanLines.put_cost.Given as goal

abbrev pub invariant-loop-number : goal.invariant-loop-number
invariant-loop-number g l =
    Written g.W.Write.write_str_gives l.initial.f
    (places_text (g.V.Rowed.row l.self.cost))
    (places_text (drop l.i (g.V.Rowed.row l.self.cost)))
    l.f

abbrev pub decreases-loop-number : goal.decreases-loop-number
decreases-loop-number g l = length (g.V.Rowed.row l.self.cost) - l.i
