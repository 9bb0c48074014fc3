use Rattle.std.proofs.Common.{sym, ap, ◌∙◌, option_map, rules, arith}
use Rattle.std.proofs.lemmas.Grind.{common_steps}
use Rattle.sheet.specs.Rows.{items_of}
use Rattle.sheet.proofs.Judging.{judged_given, judged_not}
use Rattle.sheet.proofs.admission.judge.Goals as goal

pub returns-in_err-numbers-clause-value : goal.returns-in_err-numbers-clause-value
returns-in_err-numbers-clause-value g c = λ fs h.
    let given = sym c.numbers.ensures ∙ ap (option_map items_of) c.in_err-numbers.ensures.ok_part in
    let is = judged_not (g.K.SheetKind.rules c.args.kind.now) (g.met.K.SheetKind.at_most_eight_fields c.args.kind.now) c.args.room c.args.line c.args.earlier.now fs c.args.row.now.fields.items h (search rules) given in
    grind (arith, common_steps, is)

pub returns-clause-value : goal.returns-clause-value
returns-clause-value g c = λ fs h.
    let given = sym c.numbers.ensures ∙ ap (option_map items_of) c.in_ok-numbers.ensures.ok_part in
    let is = judged_given (g.K.SheetKind.rules c.args.kind.now) (g.met.K.SheetKind.at_most_eight_fields c.args.kind.now) c.args.room c.args.line c.args.earlier.now fs c.args.row.now.fields.items h (search rules) _ given in
    grind (arith, common_steps, is)
