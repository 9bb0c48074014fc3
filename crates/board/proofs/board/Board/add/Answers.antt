use Rattle.std.proofs.Common.{◌≡◌, ◌<◌, true, ◌&&◌, is_some, None, vec_items, vec_len, vec_capacity, sym, refl, ap, ◌∙◌, subst, arith}
use Rattle.std.specs.List.{insert, prefix_len}
use Rattle.std.proofs.ResultArms.{chosen}
use Rattle.std.proofs.lemmas.List.Sums.{prefix_len-le-length}
use Rattle.board.specs.Order.{before, InOrder, NumbersDiffer}
use Rattle.board.specs.Ranges.{in_range, departs_first, AllSound}
use Rattle.board.specs.Lists.{added}
use Rattle.board.specs.Exact.{JoinedBy, Only, Undone}
use Rattle.board.specs.Refusals.{add_refusal, answer, unless_refused}
use Rattle.board.specs.Standing.{AllServed}
use Rattle.board.proofs.Adds.{inserted_added, added_in_order, added_numbers_differ, added_each}
use Rattle.board.proofs.Exactly.{only_added}
use Rattle.board.proofs.Undone.{undone}
use Rattle.board.proofs.Reasons.{Welcome, welcome}
use Rattle.board.proofs.board.Board.add.Given as given
use Rattle.board.proofs.board.Board.add.Goals.{After-insert}
use Rattle.board.proofs.board.Board.add.Goals as goal

pub insert-requires : goal.insert-requires
insert-requires g c = omega (arith, prefix_len-le-length (λ x. before x c.args.trip) c.deref-2.result.now, c.place-at.ensures, c.deref-2.ensures.len)

none : (g : given.Over) (c : goal.After-insert g) → add_refusal (g.R.Rule.yard c.args.rule.now) (vec_items c.args.self.now.trips) c.args.trip ≡ None
none g c = sym (c.in_default.ensures ∙ ap (λ l. add_refusal (g.R.Rule.yard c.args.rule.now) l c.args.trip) c.deref.ensures.value)

fresh : (g : given.Over) (c : goal.After-insert g) → Welcome (g.R.Rule.yard c.args.rule.now) (vec_items c.args.self.now.trips) c.args.trip
fresh g c = welcome (g.R.Rule.yard c.args.rule.now) (vec_items c.args.self.now.trips) c.args.trip (none g c)

room : (g : given.Over) (c : goal.After-insert g) → vec_len c.args.self.now.trips < vec_capacity c.args.self.now.trips
room g c = let f = (fresh g c).room in let k = c.args.self.now.trips.ok.0 in omega arith

put : (g : given.Over) (c : goal.After-insert g) → vec_items c.insert.new.self ≡ added (vec_items c.args.self.now.trips) c.args.trip
put g c =
    let b = c.args.self.now in
    chosen _ _ _ _ c.insert.ensures.items (c.insert.ensures.succeeds (room g c))
    ∙ ap (λ p. insert (vec_items b.trips) p c.args.trip) (c.place-at.ensures ∙ ap (λ l. prefix_len (λ x. before x c.args.trip) l) c.deref-2.ensures.value)
    ∙ inserted_added (vec_items b.trips) c.args.trip b.standing.ordered (fresh g c).new

pub place-at-requires : goal.place-at-requires
place-at-requires g c = subst InOrder (sym c.deref-2.ensures.value) c.args.self.now.standing.ordered

pub unwrap-requires : goal.unwrap-requires
unwrap-requires g c =
    let b = c.args.self.now in
    let yard = g.R.Rule.yard c.args.rule.now in
    let w = welcome yard (vec_items b.trips) c.args.trip (sym (c.in_default.ensures ∙ ap (λ l. add_refusal yard l c.args.trip) c.deref.ensures.value)) in
    let free = w.room in
    let k = b.trips.ok.0 in
    c.insert.ensures.succeeds (omega arith)

pub invariant_of-self : goal.invariant_of-self
invariant_of-self g c =
    let b = c.args.self.now in
    let f = fresh g c in
    let free = f.room in
    let k = b.trips.ok.0 in
    let grown = chosen _ _ _ _ c.insert.ensures.len (c.insert.ensures.succeeds (room g c)) in
    let cap = c.insert.ensures.capacity in
    let is = sym (put g c) in
    record {
      standing = record {
        few = omega arith;
        ordered = subst InOrder is (added_in_order (vec_items b.trips) c.args.trip b.standing.ordered f.new);
        differ = subst NumbersDiffer is (added_numbers_differ (vec_items b.trips) c.args.trip b.standing.ordered f.new b.standing.differ);
        sound = subst AllSound is (added_each (vec_items b.trips) c.args.trip b.standing.ordered f.new (λ t. (in_range t && departs_first t) ≡ true) b.standing.sound f.sound);
      };
      room = omega arith;
      limited = b.limited;
    }

pub returns : goal.returns
returns g c =
    let at = (goal.at.returns g c).After-insert in
    let b = c.args.self.now in
    let yard = g.R.Rule.yard c.args.rule.now in
    record {
      answer = sym (ap (λ o. answer o c.args.trip.number) (none g at));
      trips = put g at ∙ sym (ap (λ o. unless_refused o (vec_items b.trips) (added (vec_items b.trips) c.args.trip)) (none g at));
      limit = refl;
      exact = λ _. subst (Only (JoinedBy (vec_items b.trips) c.args.trip)) (sym (put g at)) (only_added (vec_items b.trips) c.args.trip b.standing.ordered (fresh g at).new);
      undone = λ _. subst (λ l. Undone l c.args.trip.number (vec_items b.trips)) (sym (put g at)) (undone (vec_items b.trips) c.args.trip b.standing.ordered (fresh g at).new);
      served = λ all. subst (AllServed yard) (sym (put g at)) (added_each (vec_items b.trips) c.args.trip b.standing.ordered (fresh g at).new (λ t. is_some (yard t) ≡ true) all (fresh g at).served);
    }
