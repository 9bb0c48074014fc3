use Rattle.std.proofs.Common.{sym, refl, ◌∙◌, subst}
use Rattle.matchings.specs.Growths.{Stands}
use Rattle.matchings.proofs.FlipKeeps.{flipped}
use Rattle.matchings.proofs.GrowthStarts.{near_heads_rest, near_tails_rest, started}
use Rattle.planner.proofs.search.grow.grow.Goals as goal

pub start-requires-clause-near : goal.start-requires-clause-near
start-requires-clause-near g c =
    let m = g.C.Value.Rowed in
    let s = c.requires.borne in
    record { coming = near_heads_rest m.row m.count m.long m.near _ _ _ _ s.a_long c.requires.calm; leaving = near_tails_rest m.row m.count m.long m.near _ _ _ _ s.b_long c.requires.calm }

pub extend-requires-clause-grown : goal.extend-requires-clause-grown
extend-requires-clause-grown g c =
    let m = g.C.Value.Rowed in
    let e = c.start.ensures in
    let t = c.start.new.tails in
    started m.row m.count m.long m.near _ c.args.day.now.bounded _ _ _ _ _ _ _ _ _ _ refl c.requires.borne c.requires.calm e.tails_long (t.via_long ∙ e.tails_long) (t.slack_long ∙ e.tails_long) e.blank e.slacks

pub returns-in-Ok-clause-borne : goal.returns-in-Ok-clause-borne
returns-in-Ok-clause-borne g c =
    let m = g.C.Value.Rowed in
    let e = c.in-Ok.ensures in
    let n = c.flip.new.links in
    let s = flipped m.row _ _ _ _ _ _ _ _ _ _ e.extended.0 _ _ c.flip.ensures e.borne in
    subst (λ k. Stands m.row (g.C.Costs.net c.args.day.now.costs.now) k n.next.now n.prior.now c.extend.new.prices.coming.now c.extend.new.prices.leaving.now c.extend.new.prices.hull) (sym s.sound.matching.next_long) s
