use Rattle.std.proofs.lemmas.Result.{err_from_is_err_and}
use Rattle.tow_inputs.proofs.Unrefused.{only_memory}
use Rattle.tow_inputs.proofs.making.put_in_force.Goals as goal

pub returns-in_err-remake : goal.returns-in_err-remake
returns-in_err-remake c =
    let p = err_from_is_err_and c.from_residual.result c.from_residual.ensures.1 in
    rw (p.1, p.2) (λ charges links room sound.
    only_memory charges links room c.args.charges c.args.links.now sound c.args.rule.now c.remake.new.self c.in_err-remake.field-0.0 c.in_err-remake.ensures)
