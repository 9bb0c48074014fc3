use Rattle.std.proofs.Common.{min, length, ap, ◌∙◌, rules}
use Rattle.sheet.proofs.Taken.{filled}
use Rattle.sheet.proofs.filling.fill_table.Goals as goal

pub returns : goal.returns
returns g c =
    filled (g.K.SheetKind.rules c.args.kind.now) c.min-room.result c.args.sheet.now c.args.table.now c.take_sheet.new.store.table.now c.take_sheet.new.store.count _ c.take_sheet.new.store.table.ghost_name _ _
    c.take_sheet.ensures.kept (c.err-fault.ensures.value ∙ c.take_sheet.ensures.fault) (c.min-room.ensures ∙ ap (λ m. min m (length c.args.table.now)) c.most.ensures) c.take_sheet.new.store.within (search rules)
