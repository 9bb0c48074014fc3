use Rattle.std.proofs.Common.{sym, ap, ◌∙◌}
use Rattle.std.proofs.lemmas.Result.{err_from_is_err_and}
use Rattle.faults.specs.declared.layer.Layer.TheVariants.{Board}
use Rattle.faults.specs.declared.refusal.Refusal.TheVariants.{NotServed}
use Rattle.faults.specs.Shown.{fault_at}
use Rattle.planner.proofs.Answering.{says_unserved, says_short, says_fee, says_why, says_plan}
use Rattle.planner.proofs.planning.answer.Goals as goal

pub returns-in-Some-clause-answers : goal.returns-in-Some-clause-answers
returns-in-Some-clause-answers g c = says_unserved _ _ _ _ _ c.in-Some.k _ (c.fault.ensures ∙ ap (fault_at Board NotServed) c.from.ensures) c.in-Some.ensures

pub returns-then-is_short-clause-answers : goal.returns-then-is_short-clause-answers
returns-then-is_short-clause-answers g c = says_short _ _ _ _ _ _ c.fault-then-is_short.ensures c.in_default.ensures (sym c.if-is_short.ensures)

pub returns-then-is_fee_high-clause-answers : goal.returns-then-is_fee_high-clause-answers
returns-then-is_fee_high-clause-answers g c = says_fee _ _ _ _ _ _ c.fault-then-is_fee_high.ensures c.in_default.ensures (sym c.if-is_short.ensures) (sym c.if-is_fee_high.ensures)

pub returns-clause-answers : goal.returns-clause-answers
returns-clause-answers g c =
    says_plan _ _ _ _ _ _ _ (record { served = c.in_default.ensures; long = sym c.if-is_short.ensures; fee_within = sym c.if-is_fee_high.ensures }) c.in_ok-search_fronts.ensures.answers

pub returns-in_err-search_fronts-clause-answers : goal.returns-in_err-search_fronts-clause-answers
returns-in_err-search_fronts-clause-answers g c =
    let p = err_from_is_err_and c.from_residual.result c.from_residual.ensures.1 in
    rw p.1 (says_why _ _ _ _ _ _ p.0 _ p.2 (record { served = c.in_default.ensures; long = sym c.if-is_short.ensures; fee_within = sym c.if-is_fee_high.ensures }) c.in_err-search_fronts.ensures.answers)
