use Rattle.std.proofs.lemmas.Result.{IfOk-weaker}
use Rattle.tow_report.proofs.Together.{tow_prints}
use Rattle.tow_report.proofs.tow.tow_lines.Goals as goal

pub returns-in-Ok : goal.returns-in-Ok
returns-in-Ok c = IfOk-weaker c.lines_by.result _ _ (λ text p. tow_prints _ _ c.in-Ok.sums _ c.in-Ok.ensures _ c.crewed.ensures.below _ c.crewed.ensures.cap _ _ p) c.lines_by.ensures
