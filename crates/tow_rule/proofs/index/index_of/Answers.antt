use Rattle.std.proofs.lemmas.Result.{err_from_is_err_and}
use Rattle.tow_rule.proofs.Entering.{all_entered, one_entered, not_entered}
use Rattle.tow_rule.proofs.index.index_of.Goals as goal

pub returns-in_err-enter : goal.returns-in_err-enter
returns-in_err-enter c =
    let p = err_from_is_err_and c.from_residual.result c.from_residual.ensures.1 in
    rw (p.1, p.2) (not_entered c.args.links.now c.loop-place.place c.loop-place-test.true c.loop-place.index c.enter.new.index c.loop-place.invariant c.in_err-enter.field-0.0 c.in_err-enter.ensures)

pub loop-place-preserved : goal.loop-place-preserved
loop-place-preserved c = one_entered c.args.links.now c.loop-place.place c.loop-place-test.true c.loop-place.index c.enter.new.index c.loop-place.invariant c.in_ok-enter.ensures

pub returns : goal.returns
returns c = all_entered c.args.links.now c.loop-place.place c.loop-place.index c.loop-place-test.false c.loop-place.invariant
