use Rattle.std.proofs.Common.{rules, tests}
use Rattle.duty_list.proofs.Looking.{found}
use Rattle.duty_list.proofs.firsts.take_first.Goals as goal

pub returns : goal.returns
returns c =
    let ran = c.find.ensures.ran in
    let steps = ran.2 in
    found c.args.successors.now _ (λ p b g k. search (rules, tests)) ran.0 c.args.positions.now steps.0 c.find.new.self ran.1 c.find.result steps.1 steps.2 ran.3 ran.4
