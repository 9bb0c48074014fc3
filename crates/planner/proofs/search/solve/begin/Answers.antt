use Rattle.std.proofs.Common.{negsuc, sym, refl, ◌∙◌, subst, arith}
use Rattle.std.proofs.lemmas.Int.{ints}
use Rattle.rows.proofs.Bounds.{kept_filled}
use Rattle.matchings.specs.Growths.{Opened}
use Rattle.matchings.proofs.Openings.{start_near, opened_stands, opened_rests, opened_free, opened_low}
use Rattle.planner.proofs.search.solve.begin.Goals as goal

pub quote-requires-clause-near : goal.quote-requires-clause-near
quote-requires-clause-near g c =
    let m = g.C.Value.Rowed in
    start_near m.row m.count m.long m.near _ (c.filled-low.ensures ∙ kept_filled m.count (negsuc 5999999999) (omega (arith, ints), omega (arith, ints)))

pub returns : goal.returns
returns g c =
    let m = g.C.Value.Rowed in
    let low_is = c.filled-low.ensures ∙ kept_filled m.count (negsuc 5999999999) (omega (arith, ints), omega (arith, ints)) in
    let e = c.clear.auto.table in
    let la = c.requires.prices_long ∙ sym e in
    let lb = c.quote.auto.leaving ∙ c.args.prices.now.long ∙ la in
    let lp = c.clear-2.auto.table ∙ c.args.links.now.long ∙ sym e in
    let nh = start_near m.row m.count m.long m.near _ low_is in
    let op = subst (λ x. Opened m.row (g.C.Costs.net c.args.day.now.costs.now) c.filled-low.result x c.quote.new.coming c.quote.new.leaving) la c.quote.ensures in
    record {
      links_long = e;
      borne = opened_stands m.row m.count m.long m.near _ c.args.day.now.bounded _ nh _ _ _ _ _ (c.quote.auto.coming ∙ la) lb refl lp low_is c.clear.ensures c.clear-2.ensures op;
      calm = opened_rests m.row m.count m.long m.near _ c.args.day.now.bounded _ nh _ _ _ _ _ (c.quote.auto.coming ∙ la) lb refl lp low_is c.clear.ensures c.clear-2.ensures op;
      unlinked = opened_free m.row m.count m.long m.near _ c.args.day.now.bounded _ nh _ _ _ _ _ (c.quote.auto.coming ∙ la) lb refl lp low_is c.clear.ensures c.clear-2.ensures op;
      low = opened_low m.row m.count m.long m.near _ c.args.day.now.bounded _ nh _ _ _ _ _ (c.quote.auto.coming ∙ la) lb refl lp low_is c.clear.ensures c.clear-2.ensures op;
    }
