use Rattle.std.proofs.Common.{eqb, not, ap, ◌∙◌, rules, tests}
use Rattle.std.proofs.lemmas.Iterator.{YieldsList-from_slice}
use Rattle.std.proofs.lemmas.Iterator.Search.{any_from_yields_List}
use Rattle.duty_list.proofs.Looking.{stands_not}
use Rattle.duty_list.proofs.firsts.is_first.Goals as goal

pub returns : goal.returns
returns c =
    let any = any_from_yields_List (λ x. eqb x c.args.position) _ _ c.any.result c.any.ensures.ran (YieldsList-from_slice c.args.successors.now cc) (λ x b q k. search (rules, tests)) in
    ap not any ∙ stands_not c.args.position c.args.successors.now
