use Rattle.std.proofs.Common.{rules, tests}
use Rattle.duty_list.proofs.Onward.{over}
use Rattle.duty_list.proofs.along.DutyTripsIterator.next.Goals as goal

pub returns-in_err-at-clause-steps : goal.returns-in_err-at-clause-steps
returns-in_err-at-clause-steps c =
    let none = over c.args.self.now.successors.now _ _ _ (λ x b k. search (rules, tests)) c.filter.ensures c.in_err-at.was in
    rw c.from_residual.ensures (none, none)
