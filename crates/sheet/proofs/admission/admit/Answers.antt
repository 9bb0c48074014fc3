use Rattle.std.proofs.Common.{sym, subst, MatchResult}
use Rattle.sheet.specs.Says.{Admits, Rejects}
use Rattle.sheet.proofs.Saying.{admitted_taken}
use Rattle.sheet.proofs.admission.admit.Goals as goal

pub returns : goal.returns
returns g c =
    let rules = g.K.SheetKind.rules c.args.kind.now in
    subst (λ o. MatchResult o (Admits rules c.args.room c.args.line c.args.earlier.now c.args.numbers.now) (Rejects rules c.args.room c.args.line c.args.earlier.now c.args.numbers.now))
    (sym c.admit_numbers.ensures) (admitted_taken rules _ _ _ _)
