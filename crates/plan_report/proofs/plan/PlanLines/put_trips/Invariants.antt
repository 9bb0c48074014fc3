use Rattle.printing.proofs.Writing.{Written}
use Rattle.duties.specs.Tables.{duty_of}
use Rattle.duty_list.specs.ToCome.{trips_left}
use Rattle.plan_report.specs.Lines.{trips_text}
use Rattle.plan_report.proofs.plan.PlanLines.put_trips.Given as goal

abbrev pub invariant-loop-position : goal.invariant-loop-position
invariant-loop-position g l =
    Written g.W.Write.write_str_gives l.initial.f
    (trips_text l.self.trips.now (duty_of l.self.successors.now l.first))
    (trips_text l.self.trips.now (trips_left l.position-iterator))
    l.f
