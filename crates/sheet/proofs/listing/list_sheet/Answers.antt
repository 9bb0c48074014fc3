use Rattle.std.proofs.Common.{vec_items, ap, ◌∙◌, ◌++◌, subst}
use Rattle.sheet.specs.Says.{Reads}
use Rattle.sheet.specs.Spaces.{Space}
use Rattle.sheet.specs.Reading.{read_sheet}
use Rattle.sheet.proofs.Taken.{taken}
use Rattle.sheet.proofs.listing.list_sheet.Goals as goal

pub returns-clause-reads : goal.returns-clause-reads
returns-clause-reads g c =
    let rules = g.K.SheetKind.rules c.args.kind.now in
    let kept = ap (λ (v : Space g.row.K-Record.Denot). v.kept) c.take_sheet.ensures.kept ∙ ap (λ rs. rs ++ (read_sheet rules c.most-room.result c.args.sheet.now).0) c.in_ok-records.ensures.items in
    subst (λ n. Reads rules n c.args.sheet.now (vec_items c.take_sheet.new.store) c.err-fault.result) c.most-room.ensures
    (taken rules c.most-room.result c.args.sheet.now _ _ kept (c.err-fault.ensures.value ∙ c.take_sheet.ensures.fault))
