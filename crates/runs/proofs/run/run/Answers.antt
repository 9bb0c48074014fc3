use Rattle.std.proofs.Common.{◌≡◌, length, get_or, take, sym, refl, ap, ◌∙◌, arith}
use Rattle.std.proofs.lemmas.List.{take_all}
use Rattle.calls.specs.Standing.{standing, limit_after, after_call, limit_after_call, no_call}
use Rattle.calls.proofs.Steps.{standing_more, limit_more}
use Rattle.history.proofs.Histories.{by_history}
use Rattle.plans.proofs.Lent.{same_since}
use Rattle.runs.specs.Heard.{Heard}
use Rattle.runs.proofs.Turns.{right_from, right_at, told_none, told_more, told_all}
use Rattle.runs.proofs.run.run.Goals as goal

-- src/run.rt:28:5
pub loop-call-init : goal.loop-call-init
loop-call-init g c =
    let none = c.requires.trips in
    (none, c.requires.limit, (λ i l. absurd (let e = ap length none in omega arith)), record { successors = refl; prices = refl; numbers = refl; values = refl; successors_long = refl; prices_long = refl; numbers_long = refl; values_long = refl }, told_none _ _ _ _ _ _ _ _)

-- src/run.rt:28:5
pub loop-call-preserved : goal.loop-call-preserved
loop-call-preserved g c =
    let inv = c.loop-call.invariant in
    let o = c.obey-answer.ensures in
    let yard = g.R.Rule.yard c.args.terms.now.rule.now in
    let cs = c.args.calls.now in
    let i = c.loop-call.call-index in
    let call = get_or cs i no_call in
    let lt = c.loop-call-test.true in
    let trips = o.trips ∙ ap (λ ts. after_call yard ts call) inv.0 ∙ sym (standing_more yard cs i lt) in
    let limit = o.limit ∙ ap (λ n. limit_after_call n call) inv.1 ∙ sym (limit_more cs i lt) in
    let kn = o.same.numbers_long in
    let kv = o.same.values_long in
    let h : Heard g.row.T-Value.Denot = record { answer = c.obey-answer.result; trips = c.trips.result.now; successors = c.obey-answer.new.tables.successors.now; prices = c.obey-answer.new.tables.prices.now } in (
      trips,
      limit,
      o.served inv.2,
      same_since inv.3 o.same,
      told_more _ _ _ _ _ _ _ i _ _ _ _ _ h inv.4 c.tell.ensures
          (λ last es ep. right_at _ _ call last h _ _ _ _ _ _ _ _ inv.0 inv.1 inv.3.numbers_long inv.3.values_long (right_from _ _ _ _ _ _ last h es ep refl refl call inv.2 kn kv o.step))
          (c.trips.ensures.value ∙ trips),
    )

-- src/run.rt:18:1
pub returns-clause-ran : goal.returns-clause-ran
returns-clause-ran g c =
    let inv = c.loop-call.invariant in
    let cs = c.args.calls.now in
    let e : c.loop-call.call-index ≡ length cs = omega (arith, c.loop-call-test.false, c.loop-call.auto.call-index-end) in
    let all : take c.loop-call.call-index cs ≡ cs = take_all c.loop-call.call-index cs (omega arith) in
    record { tells = told_all _ _ _ _ _ _ _ _ _ _ _ _ e inv.4; trips_stand = inv.0 ∙ ap (standing _) all; limit_is = inv.1 ∙ ap limit_after all; histories = λ k. by_history _ (take k cs) }
