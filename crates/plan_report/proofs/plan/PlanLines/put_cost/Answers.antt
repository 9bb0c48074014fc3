use Rattle.std.proofs.Common.{ap, w64, SFits, rules}
use Rattle.std.proofs.lemmas.Int.{to_z-of_z}
use Rattle.printing.proofs.Writing.{more, ended}
use Rattle.plan_report.specs.Lines.{places_text}
use Rattle.plan_report.proofs.Places.{place_none, places_more, places_less}
use Rattle.plan_report.proofs.plan.PlanLines.put_cost.Goals as goal

pub loop-number-smaller : goal.loop-number-smaller
loop-number-smaller g c = places_less (g.V.Rowed.row c.args.self.now.cost) c.loop-number.i c.in_ok-i.i c.in-Some.number c.in-Some.ensures c.in_ok-i.ensures

pub loop-number-preserved : goal.loop-number-preserved
loop-number-preserved g c =
    let fits : SFits w64 c.in-Some.number = search rules in
    more g.W.Write.write_str_gives _ _ _ _ _ _ _ c.loop-number.invariant c.in_ok-put_place.ensures
    (places_more (g.V.Rowed.row c.args.self.now.cost) c.loop-number.i c.in_ok-i.i c.in-Some.number _ c.in-Some.ensures (to_z-of_z w64 c.in-Some.number fits) c.in_ok-i.ensures)

pub returns : goal.returns
returns g c plain ok = ended g.W.Write.write_str_gives _ _ _ _ c.loop-number.invariant (ap places_text (place_none (g.V.Rowed.row c.args.self.now.cost) c.loop-number.i c.in_default.ensures)) plain
