use Rattle.std.proofs.Common.{◌≡◌, ◌+◌, map, length}
use Rattle.std.specs.Iterator.Adapters.{zip_first, zip_second}
use Rattle.printing.proofs.Writing.{Written}
use Rattle.duties.specs.Tables.{firsts, duty_of, duties_of}
use Rattle.duty_list.specs.ToCome.{firsts_left}
use Rattle.plan_report.specs.Lines.{duties_text}
use Rattle.plan_report.proofs.plan.PlanLines.put_duties.Given as goal

abbrev pub invariant-loop-number : goal.invariant-loop-number
invariant-loop-number g l =
    ((zip_first l.number-iterator).start + length (firsts_left (zip_second l.number-iterator)) ≡ 1 + length (firsts l.self.successors.now))
    × Written g.W.Write.write_str_gives l.initial.f
    (duties_text l.self.trips.now 1 (duties_of l.self.successors.now))
    (duties_text l.self.trips.now (zip_first l.number-iterator).start (map (duty_of l.self.successors.now) (firsts_left (zip_second l.number-iterator))))
    l.f
