use Rattle.plans.specs.Terms.{Terms}
use Rattle.planner.proofs.DayBounds.{day_bounded}
use Rattle.planner.proofs.planning.search_day.Goals as goal

pub invariant_of-outcome : goal.invariant_of-outcome
invariant_of-outcome g c =
    let law = g.met.T.Tariff.laws in
    let t = c.args.day.now.terms.now.tariff.now in
    let terms : Terms = record {
      yard = g.R.Rule.yard c.args.day.now.terms.now.rule.now;
      link = g.R.Rule.link c.args.day.now.terms.now.rule.now;
      places = g.T.Value.Rowed.count;
      opens = g.T.Tariff.opens t;
      links = g.T.Tariff.links t;
      homes = g.T.Tariff.homes t;
      fee = c.args.day.now.terms.now.fee;
    } in
    record { bounded = day_bounded terms c.args.day.now.trips.now c.args.day.now.standing (g.R.Rule.forward c.args.day.now.terms.now.rule.now) (law.opens_long t) (law.links_long t) (law.homes_long t) (law.opens_near t) (law.links_near t) (law.homes_near t) }
