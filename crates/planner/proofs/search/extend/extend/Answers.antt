use Rattle.std.proofs.Common.{get_or, not, sym, ap, ◌∙◌, Some, None}
use Rattle.std.proofs.lemmas.Bool.{both_ways}
use Rattle.matchings.proofs.GrowthEnds.{closed, ready, halt_none, halt_dear, not_over}
use Rattle.planner.proofs.EntryTests.{some_entry, no_entry}
use Rattle.planner.proofs.Reaches.{hull_price_near, raise_near, least_of_trips}
use Rattle.planner.proofs.search.extend.extend.Goals as goal
use Rattle.planner.proofs.search.extend.extend.Goals.{else-within-via-then-within+else-is_over, else-within-via-else-within}

pub is_over-requires-clause-hull_near : goal.is_over-requires-clause-hull_near
is_over-requires-clause-hull_near g c =
    let m = g.C.Value.Rowed in
    let i = c.loop-i.invariant in
    hull_price_near m.row m.count m.long m.near _ c.args.day.now.bounded c.args.links.now c.args.links.now.few c.loop-i.prices c.loop-i.tails _ i.1 i.2

pub is_over-requires-clause-by_near : goal.is_over-requires-clause-by_near
is_over-requires-clause-by_near g c =
    let m = g.C.Value.Rowed in
    let i = c.loop-i.invariant in
    raise_near m.row m.count m.long m.near _ c.args.day.now.bounded c.args.links.now c.args.links.now.few c.loop-i.prices c.loop-i.tails _ i.1 i.2 _ c.in-Some.ensures _ (ap (get_or c.loop-i.tails.slack.now c.in-Some.i) c.index-tails-i.is)

pub returns-then-is_over-clause-extended : goal.returns-then-is_over-clause-extended
returns-then-is_over-clause-extended g c =
    let m = g.C.Value.Rowed in
    let i = c.loop-i.invariant in
    let l = least_of_trips m.row m.count m.long m.near _ c.args.day.now.bounded c.args.links.now c.args.links.now.few c.loop-i.prices c.loop-i.tails _ i.1 i.2 (Some c.in-Some.i) c.in-Some.ensures in
    (halt_dear m.row m.count m.long m.near _ c.args.day.now.bounded _ c.args.links.now.few _ _ _ _ _ _ _ _ _ i.1 i.2 c.in-Some.i l _ c.index-tails-i.is _ (rw (← c.index-tails-i.is) at c.is_over.ensures) c.if-is_over.true, c.if-within.true)

pub returns-then-is_none-clause-low : goal.returns-then-is_none-clause-low
returns-then-is_none-clause-low g c =
    let m = g.C.Value.Rowed in
    let i = c.loop-i.invariant in
    let l = least_of_trips m.row m.count m.long m.near _ c.args.day.now.bounded c.args.links.now c.args.links.now.few c.loop-i.prices c.loop-i.tails _ i.1 i.2 (Some c.in-Some.i) c.in-Some.ensures in
    elim c.else-within.branch [
      | else-within-via-else-within w ↦ λ yea. absurd (both_ways _ w.if-within.false yea)
      | else-within-via-then-within+else-is_over w ↦ λ _. not_over m.row m.count m.long m.near _ c.args.day.now.bounded _ c.args.links.now.few _ _ _ _ _ _ _ _ _ i.1 i.2 c.in-Some.i l _ w.index-tails-i.is _ (rw (← w.index-tails-i.is) at w.is_over.ensures) w.if-is_over.false _ c.reach.ensures.price
    ]

pub returns-then-is_none-clause-extended : goal.returns-then-is_none-clause-extended
returns-then-is_none-clause-extended g c =
    let m = g.C.Value.Rowed in
    let i = c.loop-i.invariant in
    let none = no_entry _ _ _ c.head_of.ensures (sym c.is_none.ensures) (ap not c.if-is_none.true) in
    let l = least_of_trips m.row m.count m.long m.near _ c.args.day.now.bounded c.args.links.now c.args.links.now.few c.loop-i.prices c.loop-i.tails _ i.1 i.2 (Some c.in-Some.i) c.in-Some.ensures in
    let e = c.reach.ensures.ends none in
    (ready m.row m.count m.long m.near _ c.args.day.now.bounded _ c.args.links.now.few _ _ _ _ _ _ _ _ _ i.1 i.2 c.in-Some.i _ _ _ _ l.0 none e.0 e.1, e.2)

pub loop-i-preserved : goal.loop-i-preserved
loop-i-preserved g c =
    let m = g.C.Value.Rowed in
    let i = c.loop-i.invariant in
    let r = c.reach.ensures in
    let l = least_of_trips m.row m.count m.long m.near _ c.args.day.now.bounded c.args.links.now c.args.links.now.few c.loop-i.prices c.loop-i.tails _ i.1 i.2 (Some c.in-Some.i) c.in-Some.ensures in (
      r.tails_long ∙ i.0,
      r.borne,
      r.further (some_entry _ _ _ c.head_of.ensures (sym c.is_none.ensures) (ap not c.if-is_none.false)),
      elim c.else-within.branch [
        | else-within-via-else-within w ↦ λ yea. absurd (both_ways _ w.if-within.false yea)
        | else-within-via-then-within+else-is_over w ↦ λ _. not_over m.row m.count m.long m.near _ c.args.day.now.bounded _ c.args.links.now.few _ _ _ _ _ _ _ _ _ i.1 i.2 c.in-Some.i l _ w.index-tails-i.is _ (rw (← w.index-tails-i.is) at w.is_over.ensures) w.if-is_over.false _ c.reach.ensures.price
      ],
    )

pub returns-then-within-2-clause-extended : goal.returns-then-within-2-clause-extended
returns-then-within-2-clause-extended g c =
    let m = g.C.Value.Rowed in
    let i = c.loop-i.invariant in
    (halt_none m.row m.count m.long m.near _ c.args.day.now.bounded _ c.args.links.now.few _ _ _ _ _ _ _ _ _ i.1 i.2 (least_of_trips m.row m.count m.long m.near _ c.args.day.now.bounded c.args.links.now c.args.links.now.few c.loop-i.prices c.loop-i.tails _ i.1 i.2 None c.in_default.ensures), c.if-within-2.true)

pub returns-clause-extended : goal.returns-clause-extended
returns-clause-extended g c =
    let m = g.C.Value.Rowed in
    let i = c.loop-i.invariant in
    (closed m.row m.count m.long m.near _ c.args.day.now.bounded _ c.args.links.now.few _ _ _ _ _ _ _ _ _ i.1 i.2 (least_of_trips m.row m.count m.long m.near _ c.args.day.now.bounded c.args.links.now c.args.links.now.few c.loop-i.prices c.loop-i.tails _ i.1 i.2 None c.in_default.ensures), c.if-within-2.false)
