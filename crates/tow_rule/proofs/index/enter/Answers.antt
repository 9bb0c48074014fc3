use Rattle.std.proofs.Common.{sym, ◌∙◌}
use Rattle.tow_rule.proofs.Entries.{found_before, one_more}
use Rattle.tow_rule.proofs.index.enter.Goals as goal

pub returns-then-is_some : goal.returns-then-is_some
returns-then-is_some c =
    let found = rw c.pair.ensures at c.in_ok-earlier.ensures.old in
    rw c.into.ensures (c.fault.ensures, λ ls index. found_before c.args.index.now c.args.link.now ls index c.in_ok-earlier.earlier found ∙ sym c.if-is_some.ensures)

pub returns : goal.returns
returns c ls long index =
    let found = rw c.pair.ensures at c.in_ok-earlier.ensures.old in
    let updates = rw c.pair.ensures at c.in_ok-earlier.ensures.updates in
    let new = found_before c.args.index.now c.args.link.now ls index c.in_ok-earlier.earlier found ∙ sym c.if-is_some.ensures in
    (new, one_more c.args.index.now c.args.link.now ls index c.insert.new.self c.args.place long new updates c.in_ok-earlier.ensures.ordered)
