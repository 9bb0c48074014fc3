use Rattle.std.proofs.Common.{◌≡◌, length, rules}
use Rattle.plans.specs.Terms.{Terms}
use Rattle.planner.proofs.Fronts.{in_fronts}
use Rattle.planner.proofs.planning.search_fronts.Goals as goal

pub returns-clause-answers : goal.returns-clause-answers
returns-clause-answers g c =
    let t = c.args.day.now.terms.now.tariff.now in
    let terms : Terms = record {
      yard = g.R.Rule.yard c.args.day.now.terms.now.rule.now;
      link = g.R.Rule.link c.args.day.now.terms.now.rule.now;
      places = g.T.Value.Rowed.count;
      opens = g.T.Tariff.opens t;
      links = g.T.Tariff.links t;
      homes = g.T.Tariff.homes t;
      fee = c.args.day.now.terms.now.fee;
    } in
    let n = length c.args.day.now.trips.now in
    let ls : length c.search_day.new.successors ≡ n = search rules in
    let lp : length c.search_day.new.prices ≡ n = search rules in
    in_fronts g.T.Value.Rowed.row terms c.args.day.now.trips.now _ c.args.tables.now.successors.now c.search_day.new.successors c.args.tables.now.prices.now c.search_day.new.prices ls lp _ _ _ _ c.search_day.result c.search_day.ensures
