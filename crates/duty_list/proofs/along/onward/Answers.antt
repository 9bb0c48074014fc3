use Rattle.std.proofs.Common.{◌∷◌, sym, ap, ◌∙◌}
use Rattle.duty_list.specs.Along.{trips_from}
use Rattle.duty_list.proofs.Onward.{onward_from}
use Rattle.duty_list.proofs.along.onward.Goals as goal

pub returns : goal.returns
returns c =
    let t = c.args.successors.now in
    onward_from t c.args.at c.from-entry.result c.requires c.from-entry.ensures ∙ ap (λ o. c.args.at ∷ trips_from t o) (sym c.then_some.ensures)
