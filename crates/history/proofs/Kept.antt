-- What every call keeps of the trips that stand. Assumes nothing.
use Rattle.std.proofs.Common.{◌≡◌, ℕ, ◌+◌, ◌≤◌, true, false, not, ◌&&◌, eqb, List, ◌∷◌, length, is_some, Some, None, filter, Option, sym, refl, ap, ◌∙◌, arith, length-append}
use Rattle.std.proofs.lemmas.List.Filters.{length-filter_both}
use Rattle.faults.specs.declared.refusal.Refusal.{Refusal}
use Rattle.trips.specs.declared.trip.Trip.{Trip}
use Rattle.rules.specs.declared.rule.YardCents.{YardCents}
use Rattle.board.specs.Order.{before, InOrder}
use Rattle.board.specs.Ranges.{in_range, departs_first}
use Rattle.board.specs.Lists.{stands, added, without}
use Rattle.board.specs.Refusals.{add_refusal, withdraw_refusal, unless_refused}
use Rattle.board.specs.Standing.{Standing, AllServed}
use Rattle.board.proofs.Adds.{Differ, whole, added_in_order, added_numbers_differ, added_each}
use Rattle.board.proofs.Exactly.{only_without}
use Rattle.board.proofs.Kept.{without_each}
use Rattle.board.proofs.Pairs.{pairs_from, places_from, pairs_kept}
use Rattle.board.proofs.Reasons.{welcome}
use Rattle.calls.specs.declared.call.Call.{Call}
use Rattle.calls.specs.declared.call.Call.TheVariants.{Add, Withdraw, SetLimit, Plan}
use Rattle.calls.specs.Standing.{after_call}

-- what holds of what was where a call is refused, and of what the call makes of it where it is not, holds after the call
pub either_way : {X : Type 0} (P : X → Type 0) (o : Option Refusal) (old new : X) → ((o ≡ None → ⊥) → P old) → (o ≡ None → P new) → P (unless_refused o old new)
either_way P None old new p f = f refl
either_way P (Some r) old new p f = p (λ e. let z : ◌≡◌ {A = ℕ} 0 1 = cc in omega arith)

length_added : (ts : List Trip) (t : Trip) → InOrder ts → stands ts t.number ≡ false → length (added ts t) ≡ length ts + 1
length_added ts t ordered new =
    let front = filter (λ x. before x t) ts in
    let back = filter (λ x. before t x) ts in
    let all = sym (length-append front back) ∙ ap length (whole ts t ordered new) in
    let more = length-append front (t ∷ back) in
    omega arith

length_without : (ts : List Trip) (n : ℕ) → length (without ts n) ≤ length ts
length_without ts n = let both = length-filter_both (λ (x : Trip). not (eqb x.number n)) (λ x. not (not (eqb x.number n))) (λ x. refl) ts in omega arith

pub standing_kept : (yard : Trip → Option YardCents) (ts : List Trip) (c : Call) → Standing ts → Standing (after_call yard ts c)
standing_kept yard ts (Add t) s =
    either_way Standing (add_refusal yard ts t) ts (added ts t) (λ _. s)
    (λ none.
    let w = welcome yard ts t none in
    let more = length_added ts t s.ordered w.new in
    let free = w.room in
    record {
      few = omega arith;
      ordered = added_in_order ts t s.ordered w.new;
      differ = added_numbers_differ ts t s.ordered w.new s.differ;
      sound = added_each ts t s.ordered w.new (λ u. (in_range u && departs_first u) ≡ true) s.sound w.sound;
    })
standing_kept yard ts (Withdraw n) s =
    either_way Standing (withdraw_refusal ts n) ts (without ts n) (λ _. s)
    (λ none.
    let less = length_without ts n in
    let few = s.few in
    record {
      few = omega arith;
      ordered = (only_without ts n s.ordered).0.ordered;
      differ = places_from Differ (without ts n) (pairs_kept Differ (λ x. not (eqb x.number n)) ts (pairs_from Differ ts s.differ));
      sound = without_each ts n (λ u. (in_range u && departs_first u) ≡ true) s.sound;
    })
standing_kept yard ts (SetLimit n) s = s
standing_kept yard ts Plan s = s

pub served_kept : (yard : Trip → Option YardCents) (ts : List Trip) (c : Call) → Standing ts → AllServed yard ts → AllServed yard (after_call yard ts c)
served_kept yard ts (Add t) s all =
    either_way (AllServed yard) (add_refusal yard ts t) ts (added ts t) (λ _. all)
    (λ none. let w = welcome yard ts t none in added_each ts t s.ordered w.new (λ u. is_some (yard u) ≡ true) all w.served)
served_kept yard ts (Withdraw n) s all = either_way (AllServed yard) (withdraw_refusal ts n) ts (without ts n) (λ _. all) (λ none. without_each ts n (λ u. is_some (yard u) ≡ true) all)
served_kept yard ts (SetLimit n) s all = all
served_kept yard ts Plan s all = all
