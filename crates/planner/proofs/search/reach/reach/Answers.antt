use Rattle.std.proofs.Common.{◌≡◌, length, get_or, ap, ◌∙◌, length-set}
use Rattle.planner.specs.Searches.{trips}
use Rattle.planner.proofs.Reaches.{prices_near, slacks_near, raise_near, after_raise}
use Rattle.planner.proofs.search.reach.reach.Goals as goal

pub raise-requires-clause-near : goal.raise-requires-clause-near
raise-requires-clause-near g c = let m = g.C.Value.Rowed in prices_near m.row m.count m.long m.near _ c.args.day.now.bounded c.args.links.now c.args.links.now.few c.args.prices.now c.args.tails.now _ c.requires.borne c.requires.grown

pub raise-requires-clause-near_slack : goal.raise-requires-clause-near_slack
raise-requires-clause-near_slack g c = let m = g.C.Value.Rowed in slacks_near m.row m.count m.long m.near _ c.args.day.now.bounded c.args.links.now c.args.links.now.few c.args.prices.now c.args.tails.now _ c.requires.borne c.requires.grown

pub raise-requires-clause-step : goal.raise-requires-clause-step
raise-requires-clause-step g c = let m = g.C.Value.Rowed in raise_near m.row m.count m.long m.near _ c.args.day.now.bounded c.args.links.now c.args.links.now.few c.args.prices.now c.args.tails.now _ c.requires.borne c.requires.grown _ c.requires.least _ (ap (get_or c.args.tails.now.slack.now c.args.i) c.index-tails-i.is)

pub scan-requires-clause-near : goal.scan-requires-clause-near
scan-requires-clause-near g c =
    let m = g.C.Value.Rowed in
    let a = after_raise m.row m.count m.long m.near _ c.args.day.now.bounded c.args.links.now c.args.links.now.few c.args.prices.now c.args.tails.now _ c.requires.borne c.requires.grown _ c.requires.least _ (ap (get_or c.args.tails.now.slack.now c.args.i) c.index-tails-i.is) c.raise.new.prices c.raise.new.tails c.raise.ensures _ c.plus-prices.ensures in
    record { coming = a.coming; leaving = a.leaving }

pub returns-in-Some : goal.returns-in-Some
returns-in-Some g c =
    let m = g.C.Value.Rowed in
    let a = after_raise m.row m.count m.long m.near _ c.args.day.now.bounded c.args.links.now c.args.links.now.few c.args.prices.now c.args.tails.now _ c.requires.borne c.requires.grown _ c.requires.least _ (ap (get_or c.args.tails.now.slack.now c.args.i) c.index-tails-i.is) c.raise.new.prices c.raise.new.tails c.raise.ensures _ c.plus-prices.ensures in
    let s = c.scan.ensures in
    let l : length c.scan.new.tails.reached.now ≡ length c.args.tails.now.reached.now = ap length s.reached ∙ length-set _ _ _ ∙ ap length c.raise.ensures.reached in
    let n : length c.scan.new.tails.reached.now ≡ trips c.args.links.now = l ∙ c.requires.grown.searching.reached_long in
    record {
      tails_long = l;
      borne = a.borne;
      price = a.price;
      further = λ some. rw s.reached (a.further some _ c.in-Some.ensures.1 _ _ (c.scan.new.tails.slack_long ∙ n) (c.scan.new.tails.via_long ∙ n) s.scanned);
      ends = λ none. absurd (c.in-Some.ensures.0 none);
    }

pub returns-in_default : goal.returns-in_default
returns-in_default g c =
    let m = g.C.Value.Rowed in
    let a = after_raise m.row m.count m.long m.near _ c.args.day.now.bounded c.args.links.now c.args.links.now.few c.args.prices.now c.args.tails.now _ c.requires.borne c.requires.grown _ c.requires.least _ (ap (get_or c.args.tails.now.slack.now c.args.i) c.index-tails-i.is) c.raise.new.prices c.raise.new.tails c.raise.ensures _ c.plus-prices.ensures in
    record {
      tails_long = length-set _ _ _ ∙ ap length c.raise.ensures.reached;
      borne = a.borne;
      price = a.price;
      further = λ some. absurd (some c.in_default.ensures);
      ends = a.ends;
    }
