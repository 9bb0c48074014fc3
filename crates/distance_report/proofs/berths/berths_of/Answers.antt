use Rattle.std.proofs.Common.{◌∙◌, refl, rules, tests}
use Rattle.std.proofs.lemmas.Result.{IfOk-weaker}
use Rattle.std.proofs.lemmas.Iterator.{items_from_collect, YieldsList-from_range}
use Rattle.std.proofs.lemmas.Iterator.Consumers.{YieldsList-from_filter}
use Rattle.distance_report.specs.Berths.{berth_is_named}
use Rattle.distance_report.proofs.Named.{named_is}
use Rattle.distance_report.proofs.berths.berths_of.Goals as goal

pub returns : goal.returns
returns c =
    IfOk-weaker c.collect.result _ _ (λ berths is. is ∙ named_is c.args.edges.now 32)
    (items_from_collect _ c.collect.ensures.ran
    (YieldsList-from_filter _ (berth_is_named c.args.edges.now) (YieldsList-from_range 0 32 32 (cc c.filter.ensures.source) refl) c.filter.ensures.closure (λ x r q k. search (rules, tests))))
