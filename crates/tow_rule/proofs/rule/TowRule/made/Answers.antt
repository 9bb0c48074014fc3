use Rattle.std.proofs.Common.{subst, rules}
use Rattle.tow_rule.specs.Allowed.{LinksAsAllowed}
use Rattle.tow_rule.proofs.Allowing.{as_allowed}
use Rattle.tow_rule.proofs.rule.TowRule.made.Goals as goal

pub returns : goal.returns
returns c =
    let listed = c.in_ok-listed.listed in
    (search rules, search rules, subst LinksAsAllowed c.in_ok-listed.ensures.1 (as_allowed listed.links.now listed.once))
