use Rattle.std.proofs.Common.{map, sym, refl, ◌∙◌, subst, rules}
use Rattle.std.proofs.lemmas.Result.{err_from_is_err_and}
use Rattle.duties.specs.Plans.{Accepted}
use Rattle.planner.proofs.Endings.{signed_number, ends_short, ends_near, ends_planned, ends_dear}
use Rattle.planner.proofs.outcome.outcome.Goals as goal

pub returns-in_err-duties : goal.returns-in_err-duties
returns-in_err-duties g c =
    let m = g.C.Value.Rowed in
    let e = c.solve.ensures in
    let p = err_from_is_err_and c.from_residual.result c.from_residual.ensures.1 in
    rw (p.1, p.2) (ends_short m.row m.count _ c.args.day.now.bounded c.requires.few c.solve.new.links c.solve.new.prices c.solve.new.tails (e.links_long ∙ c.requires.links_long) e.borne _ _ c.in_err-duties.ensures.solved, refl, refl)

pub total-requires-clause-near : goal.total-requires-clause-near
total-requires-clause-near g c =
    let m = g.C.Value.Rowed in
    let e = c.in_ok-duties.ensures in
    ends_near m.row m.count _ c.args.day.now.bounded c.requires.few c.solve.new.links c.solve.new.prices c.solve.new.tails (e.links_long ∙ c.requires.links_long) e.borne _ m.long m.near _ e.solved

pub returns-then-is_high : goal.returns-then-is_high
returns-then-is_high g c =
    let m = g.C.Value.Rowed in
    let e = c.in_ok-duties.ensures in (
      ends_dear m.row m.count _ c.args.day.now.bounded c.requires.few c.solve.new.links c.solve.new.prices c.solve.new.tails (e.links_long ∙ c.requires.links_long) e.borne _ m.long m.near _ e.solved
          _ _ _ c.total.ensures c.requires.limited _ (signed_number _ _ c.from.ensures (search rules)) c.times.ensures c.minus-cost.ensures (sym c.if-is_high.ensures),
      refl,
      refl,
    )

pub write_prices-requires-clause-near : goal.write_prices-requires-clause-near
write_prices-requires-clause-near g c =
    let m = g.C.Value.Rowed in
    let e = c.in_ok-duties.ensures in
    ends_near m.row m.count _ c.args.day.now.bounded c.requires.few c.solve.new.links c.solve.new.prices c.solve.new.tails (e.links_long ∙ c.requires.links_long) e.borne _ m.long m.near _ e.solved

pub returns : goal.returns
returns g c =
    let m = g.C.Value.Rowed in
    let e = c.in_ok-duties.ensures in (
      subst (λ t. Accepted m.count (g.C.Costs.net c.args.day.now.costs.now) c.args.limit t (map m.row c.write_prices.new.written) c.in_ok-duties.duties (m.row c.minus-cost.result) (m.row c.solve.new.prices.hull))
          (sym c.copy_from_slice.ensures.after)
          (ends_planned m.row m.count _ c.args.day.now.bounded c.requires.few c.solve.new.links c.solve.new.prices c.solve.new.tails (e.links_long ∙ c.requires.links_long) e.borne _ m.long m.near _ e.solved
          _ _ _ c.total.ensures c.requires.limited _ (signed_number _ _ c.from.ensures (search rules)) c.times.ensures c.minus-cost.ensures _ (c.write_prices.auto.written ∙ c.requires.written_long) c.write_prices.ensures),
      sym c.if-is_high.ensures,
    )
