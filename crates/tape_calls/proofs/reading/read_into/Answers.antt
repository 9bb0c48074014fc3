use Rattle.std.proofs.Common.{[], ◌∷◌, ◌++◌, None, vec_items, vec_capacity, sym, ap, ◌∙◌, subst, arith}
use Rattle.tape.specs.Readers.{left}
use Rattle.tape.specs.Holds.{Gives}
use Rattle.tape_calls.proofs.Turns.{begun, has_room, goes_on, over, fails}
use Rattle.tape_calls.proofs.reading.read_into.Goals as goal

pub loop-item-init : goal.loop-item-init
loop-item-init c =
    let gives = subst (λ r. Gives c.args.tape.now (left r)) (sym c.into_iter-item-iterator.ensures.into_iter_gives) c.new-item-items.ensures in
    begun c.args.tape.now (vec_items c.args.calls) (left c.into_iter-item-iterator.result) (vec_capacity c.args.calls) gives c.requires.none c.requires.room

pub push_reserved-requires : goal.push_reserved-requires
push_reserved-requires c =
    let room = has_room c.args.tape.now (vec_items c.loop-item.calls) (left c.loop-item.item-iterator) (vec_capacity c.loop-item.calls) c.loop-item.invariant
    c.in-Some.item c.in-Ok.command (left c.next.new.self) c.in-Ok.is c.in-Some.ensures.steps.0 in
    omega (arith, c.loop-item.calls.ok.0)

pub loop-item-preserved : goal.loop-item-preserved
loop-item-preserved c =
    goes_on c.args.tape.now (vec_items c.loop-item.calls) (left c.loop-item.item-iterator) (vec_capacity c.loop-item.calls) c.loop-item.invariant
    c.in-Some.item c.in-Ok.command (left c.next.new.self) c.in-Ok.is c.in-Some.ensures.steps.0
    (vec_items c.push_reserved.new.self) (vec_capacity c.push_reserved.new.self)
    (c.push_reserved.ensures.items ∙ ap (λ x. vec_items c.loop-item.calls ++ x ∷ []) c.call_of.ensures) c.push_reserved.ensures.capacity

pub returns-in-Err : goal.returns-in-Err
returns-in-Err c =
    fails c.args.tape.now (vec_items c.loop-item.calls) (left c.loop-item.item-iterator) (vec_capacity c.loop-item.calls) c.loop-item.invariant
    c.in-Some.item c.in-Err.fault (left c.next.new.self) c.in-Err.is c.in-Some.ensures.steps

pub returns : goal.returns
returns c =
    over c.args.tape.now (vec_items c.loop-item.calls) (left c.loop-item.item-iterator) (vec_capacity c.loop-item.calls) c.loop-item.invariant
    None c.in-None.ensures.steps.0
