use Rattle.std.proofs.Common.{◌≡◌, ◌+◌, Some, get_or, ◌∙◌, arith, rules}
use Rattle.tape.specs.Kinds.{kind_of}
use Rattle.tape.proofs.Steps.{front_is, front_within, step_command}
use Rattle.tape.proofs.reader.command_at.Goals as goal

pub returns : goal.returns
returns c =
    let found : kind_of (get_or c.args.tape.now c.args.at 0) ≡ Some c.in_ok-kind.kind = search rules in
    let got : c.get.result ≡ Some c.in_ok-operands.operands = search rules in
    let cut = rw got at c.get.ensures.lookup.0 in
    step_command c.args.tape.now c.args.at c.requires c.in_ok-kind.kind found c.width-width.result c.width-width.ensures c.with_operands.result c.in_ok-operands.operands.now c.with_operands.ensures
    (cut.2 ∙ front_is c.args.tape.now (c.args.at + 1) c.width-width.result) (front_within c.args.tape.now (c.args.at + 1) c.width-width.result (omega (arith, c.requires)) cut.1)
