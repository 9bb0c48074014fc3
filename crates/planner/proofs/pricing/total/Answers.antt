use Rattle.std.proofs.Common.{◌<◌, length, arith}
use Rattle.std.proofs.lemmas.List.{length_push}
use Rattle.std.proofs.lemmas.Slice.Zip.{zip_turn}
use Rattle.outcomes.proofs.Totals.{totalled_none, totalled_more}
use Rattle.planner.proofs.pricing.total.Goals as goal

pub loop-coming-init : goal.loop-coming-init
loop-coming-init g c = let m = g.V.Rowed in totalled_none m.row m.count m.long m.near _ _ _ c.zero-total.ensures

pub loop-coming-preserved : goal.loop-coming-preserved
loop-coming-preserved g c =
    let m = g.V.Rowed in
    let t = zip_turn c.args.prices.now.coming.now c.args.prices.now.leaving.now c.loop-coming.yielded c.into_iter-coming-iterator.result c.loop-coming.coming-iterator c.next.new.self c.next.result (cc) (cc) c.loop-coming.yielded_by (c.in-Some.coming, c.in-Some.leaving) c.in-Some.is c.next.ensures.steps in
    let l : length c.loop-coming.yielded < 200 = omega (arith, t.0, c.requires.few) in
    rw (length_push c.loop-coming.yielded (c.in-Some.coming, c.in-Some.leaving))
    (totalled_more m.row m.count m.long m.near _ _ _ t.0 t.1 c.requires.near.coming c.requires.near.leaving _ _ _ (t.2 _) (t.3 _) c.plus.ensures _ _ l c.loop-coming.invariant c.plus-total.ensures)
