use Rattle.std.proofs.Common.{◌∷◌, sym, ap, ◌∙◌, arith}
use Rattle.std.proofs.lemmas.Grind.{common_steps}
use Rattle.tokens.specs.Tokens.{left, seen}
use Rattle.sheet.proofs.Taking.{taking_begun, taking_line, taking_refused, taking_space}
use Rattle.sheet.proofs.reading.take_lines.Goals as goal

pub loop-token-init : goal.loop-token-init
loop-token-init g c =
    taking_begun (g.K.SheetKind.rules c.args.kind.now) c.args.room c.args.sheet.now (g.S.Store.space c.args.store.now) c.new-row.result _ c.requires.0 c.new-row.ensures
    (ap left c.into_iter-token-iterator.ensures.into_iter_gives ∙ c.new-token-items.ensures.tokens)

pub returns-in_err-take_line-in-LineEnd-clause-kept : goal.returns-in_err-take_line-in-LineEnd-clause-kept
returns-in_err-take_line-in-LineEnd-clause-kept g c =
    let rules = g.K.SheetKind.rules c.args.kind.now in
    let now = c.loop-token.invariant in
    let next = c.in-Some.ensures.steps ∙ ap (λ t. seen t ∷ left c.next.new.self) c.in-LineEnd.is in
    let took = rw c.in_err-take_line-in-LineEnd.was at (c.take_line.ensures now.texts now.holds) in
    let told = taking_refused rules c.args.room c.args.sheet.now (g.S.Store.space c.args.store.now) c.loop-token.row (g.S.Store.space c.loop-token.store) (left c.loop-token.token-iterator) now c.in-LineEnd.line (left c.next.new.self) next _ _ _ took in
    told.0 ∙ taking_space rules c.args.room c.args.sheet.now (g.S.Store.space c.args.store.now) c.loop-token.row (g.S.Store.space c.loop-token.store) (left c.loop-token.token-iterator) now c.requires.0 _ (sym (ap (λ p. p.0) told.1))

pub returns-in_err-take_line-in-LineEnd-clause-fault : goal.returns-in_err-take_line-in-LineEnd-clause-fault
returns-in_err-take_line-in-LineEnd-clause-fault g c =
    let rules = g.K.SheetKind.rules c.args.kind.now in
    let now = c.loop-token.invariant in
    let next = c.in-Some.ensures.steps ∙ ap (λ t. seen t ∷ left c.next.new.self) c.in-LineEnd.is in
    let took = rw c.in_err-take_line-in-LineEnd.was at (c.take_line.ensures now.texts now.holds) in
    let told = taking_refused rules c.args.room c.args.sheet.now (g.S.Store.space c.args.store.now) c.loop-token.row (g.S.Store.space c.loop-token.store) (left c.loop-token.token-iterator) now c.in-LineEnd.line (left c.next.new.self) next _ _ _ took in
    let fault = ap (λ p. p.1) told.1 in
    grind (arith, common_steps, fault)

pub loop-token-preserved : goal.loop-token-preserved
loop-token-preserved g c =
    let rules = g.K.SheetKind.rules c.args.kind.now in
    let now = c.loop-token.invariant in
    let next = c.in-Some.ensures.steps ∙ ap (λ t. seen t ∷ left c.next.new.self) c.in-LineEnd.is in
    let took = rw c.in_ok-take_line-in-LineEnd.was at (c.take_line.ensures now.texts now.holds) in
    taking_line rules c.args.room c.args.sheet.now (g.S.Store.space c.args.store.now) c.loop-token.row (g.S.Store.space c.loop-token.store) (left c.loop-token.token-iterator) now c.in-LineEnd.line (left c.next.new.self) next _ _ _ took c.new-row-in-LineEnd.ensures
