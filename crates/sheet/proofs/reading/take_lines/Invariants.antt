use Rattle.tokens.specs.Tokens.{left}
use Rattle.sheet.proofs.Taking.{Taking}
use Rattle.sheet.proofs.reading.take_lines.Given as goal

abbrev pub invariant-loop-token : goal.invariant-loop-token
invariant-loop-token g l =
    Taking (g.K.SheetKind.rules l.kind) l.room l.sheet (g.S.Store.space l.initial.store) l.row (g.S.Store.space l.store) (left l.token-iterator)
