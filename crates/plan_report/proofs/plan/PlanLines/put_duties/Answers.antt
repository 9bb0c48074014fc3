use Rattle.std.proofs.Common.{map, ap, rules}
use Rattle.std.specs.Iterator.Adapters.{zip_first, zip_second}
use Rattle.printing.proofs.Writing.{more, ended}
use Rattle.duties.specs.Tables.{duty_of}
use Rattle.duty_list.specs.ToCome.{firsts_left}
use Rattle.plan_report.specs.Lines.{duties_text}
use Rattle.plan_report.proofs.Duties.{number_more, duties_more, all_taken}
use Rattle.plan_report.proofs.plan.PlanLines.put_duties.Goals as goal

pub loop-number-preserved : goal.loop-number-preserved
loop-number-preserved g c =
    let steps = c.in-Some.ensures.steps in
    let number_is = steps.0.0 in
    let number_on = steps.0.1 in (
      number_more c.args.self.now.successors.now _ _ _ _ _ _ number_is number_on steps.1 c.loop-number.invariant.0,
      more g.W.Write.write_str_gives _ _ _ _ _ _ _ c.loop-number.invariant.1 c.in_ok-put_duty.ensures (duties_more c.args.self.now.successors.now _ _ _ _ _ _ number_is number_on steps.1 c.args.self.now.trips.now),
    )

pub returns : goal.returns
returns g c plain ok =
    let t = c.args.self.now.successors.now in
    let at = (zip_first c.loop-number.number-iterator).start in
    let none = all_taken t (firsts_left (zip_second c.loop-number.number-iterator)) at _ _ c.loop-number.invariant.0 (search rules) (λ n. n.1.0) (λ d. d.1.0) c.in-None.ensures.steps in
    ended g.W.Write.write_str_gives _ _ _ _ c.loop-number.invariant.1 (ap (λ ks. duties_text c.args.self.now.trips.now at (map (duty_of t) ks)) none) plain
