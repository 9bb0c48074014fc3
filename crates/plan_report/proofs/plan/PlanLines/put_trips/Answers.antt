use Rattle.std.proofs.Common.{◌++◌, codes, decimal, sym, ap, ◌∙◌}
use Rattle.printing.proofs.Writing.{more}
use Rattle.duty_list.specs.ToCome.{trips_left}
use Rattle.plan_report.specs.Lines.{trips_text}
use Rattle.plan_report.proofs.plan.PlanLines.put_trips.Goals as goal

pub loop-position-preserved : goal.loop-position-preserved
loop-position-preserved g c =
    let ts = c.args.self.now.trips.now in
    let rest = trips_text ts (trips_left c.next.new.self) in
    more g.W.Write.write_str_gives _ _ _ _ _ _ _ c.loop-position.invariant c.in_ok-write.ensures.writes
    (ap (trips_text ts) c.in-Some.ensures.steps ∙ ap (λ n. codes " " ++ (decimal n ++ rest)) (sym c.number_at.ensures))
