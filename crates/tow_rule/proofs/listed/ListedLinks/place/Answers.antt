use Rattle.std.proofs.Common.{sym, ◌∙◌, subst}
use Rattle.tow_rule.specs.Places.{StandsAt}
use Rattle.tow_rule.proofs.Places.{same_option, stands}
use Rattle.tow_rule.proofs.listed.ListedLinks.place.Goals as goal

pub returns : goal.returns
returns c =
    let me = c.args.self.now in
    let t = c.args.tail in
    let h = c.args.head in
    subst (StandsAt me.links.now t h) (sym (c.copied.ensures ∙ c.get.ensures.value ∙ same_option _ _ (me.places t h))) (stands me.links.now t h)
