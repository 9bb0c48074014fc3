use Rattle.std.proofs.Common.{length, ap}
use Rattle.planner.proofs.Reaches.{prices_near, slacks_near}
use Rattle.planner.proofs.Settles.{down_step, settled_borne, settled_calm, settled_zero}
use Rattle.planner.proofs.search.settle.settle.Goals as goal

pub raise-requires-clause-near : goal.raise-requires-clause-near
raise-requires-clause-near g c = let m = g.C.Value.Rowed in prices_near m.row m.count m.long m.near _ c.args.day.now.bounded c.args.links.now c.args.links.now.few c.args.prices.now c.args.tails.now _ c.requires.borne c.requires.halted.growing

pub raise-requires-clause-near_slack : goal.raise-requires-clause-near_slack
raise-requires-clause-near_slack g c = let m = g.C.Value.Rowed in slacks_near m.row m.count m.long m.near _ c.args.day.now.bounded c.args.links.now c.args.links.now.few c.args.prices.now c.args.tails.now _ c.requires.borne c.requires.halted.growing

pub raise-requires-clause-step : goal.raise-requires-clause-step
raise-requires-clause-step g c = let m = g.C.Value.Rowed in down_step m.row m.count m.long m.near _ c.args.day.now.bounded c.args.links.now c.args.links.now.few c.args.prices.now c.args.tails.now c.requires.borne c.requires.halted c.requires.low _ c.negated-by.ensures

pub returns : goal.returns
returns g c =
    let m = g.C.Value.Rowed in
    record {
      tails_long = ap length c.raise.ensures.reached;
      borne = settled_borne m.row m.count m.long m.near _ c.args.day.now.bounded c.args.links.now c.args.links.now.few c.args.prices.now c.args.tails.now c.requires.borne c.requires.halted c.requires.low _ c.negated-by.ensures c.raise.new.prices c.raise.new.tails c.raise.ensures _ c.zero-prices.ensures;
      calm = settled_calm m.row m.count m.long m.near _ c.args.day.now.bounded c.args.links.now c.args.links.now.few c.args.prices.now c.args.tails.now c.requires.borne c.requires.halted c.requires.low _ c.negated-by.ensures c.raise.new.prices c.raise.new.tails c.raise.ensures _ c.zero-prices.ensures;
      zero = settled_zero m.row m.count m.long m.near _ c.args.day.now.bounded c.args.links.now c.args.links.now.few c.args.prices.now c.args.tails.now c.requires.borne c.requires.halted c.requires.low _ c.negated-by.ensures c.raise.new.prices c.raise.new.tails c.raise.ensures _ c.zero-prices.ensures;
    }
