-- Which trips one call leaves, and which limit. Assumes nothing.
use Rattle.std.proofs.Common.{◌≡◌, ℕ, true, eqb, ◌⊎◌, List, [], ◌∷◌, None, Option, sym, refl, ap, subst, inl, inr, ⊎_elim, arith}
use Rattle.std.proofs.lemmas.Bool.{eq-eqb, or_left, or_right}
use Rattle.trips.specs.declared.trip.Trip.{Trip}
use Rattle.rules.specs.declared.rule.YardCents.{YardCents}
use Rattle.board.specs.Order.{InOrder}
use Rattle.board.specs.Lists.{stands, added, without}
use Rattle.board.specs.Refusals.{add_refusal, withdraw_refusal, limit_refusal, unless_refused}
use Rattle.board.specs.Exact.{Among}
use Rattle.board.proofs.Exactly.{only_added, only_without}
use Rattle.board.proofs.Reasons.{welcome, leaves}
use Rattle.calls.specs.declared.call.Call.{Call}
use Rattle.calls.specs.declared.call.Call.TheVariants.{Add, Withdraw, SetLimit, Plan}
use Rattle.calls.specs.Standing.{after_call, limit_after_call}
use Rattle.history.proofs.Kept.{either_way}

-- the number of a trip that is among the trips stands
number_stands : (ts : List Trip) (t : Trip) → Among t ts → stands ts t.number ≡ true
number_stands [] t a = absurd a
number_stands (x ∷ ts) t (inl e) = or_left (eqb x.number t.number) (stands ts t.number) (eq-eqb _ _ (ap (λ (y : Trip). y.number) e))
number_stands (x ∷ ts) t (inr a) = or_right (eqb x.number t.number) (stands ts t.number) (number_stands ts t a)

module _ (yard : Trip → Option YardCents) (ts : List Trip) (ordered : InOrder ts) (t : Trip) where
  -- the call withdraws the trip's number with success
  abbrev pub Withdraws : Call → Type 0
  Withdraws c = (c ≡ Withdraw t.number) × (withdraw_refusal ts t.number ≡ None)

  -- the call adds the trip
  abbrev pub Adds : Call → Type 0
  Adds c = (c ≡ Add t) × (add_refusal yard ts t ≡ None)

  -- a trip that is among the trips after a call was added by it, or was among them before and was not withdrawn
  pub came : (c : Call) → Among t (after_call yard ts c) → Adds c ⊎ (Among t ts × (Withdraws c → ⊥))
  came (Add u) a =
      either_way (λ l. Among t l → Adds (Add u) ⊎ (Among t ts × (Withdraws (Add u) → ⊥))) (add_refusal yard ts u) ts (added ts u)
      (λ refused old. inr (old, λ w. let e = w.0 in let z : ◌≡◌ {A = ℕ} 0 1 = cc in omega arith))
      (λ none new.
      ⊎_elim
      (λ is. inl (ap Add (sym is), subst (λ v. add_refusal yard ts v ≡ None) (sym is) none))
      (λ old. inr (old, λ w. let e = w.0 in let z : ◌≡◌ {A = ℕ} 0 1 = cc in omega arith))
      ((only_added ts u ordered (welcome yard ts u none).new).0.no_other t new))
      a
  came (Withdraw n) a =
      either_way (λ l. Among t l → Adds (Withdraw n) ⊎ (Among t ts × (Withdraws (Withdraw n) → ⊥))) (withdraw_refusal ts n) ts (without ts n)
      (λ refused old. inr (old, λ w. let e = w.0 in let is : t.number ≡ n = cc in refused (subst (λ k. withdraw_refusal ts k ≡ None) is w.1)))
      (λ none new.
      let old = (only_without ts n ordered).0.no_other t new in
      inr (old.0, λ w. let e = w.0 in let is : t.number ≡ n = cc in old.1 is))
      a
  came (SetLimit n) a = inr (a, λ w. let e = w.0 in let z : ◌≡◌ {A = ℕ} 0 1 = cc in omega arith)
  came Plan a = inr (a, λ w. let e = w.0 in let z : ◌≡◌ {A = ℕ} 0 1 = cc in omega arith)

  -- a trip that is added is among the trips then
  pub comes : add_refusal yard ts t ≡ None → Among t (after_call yard ts (Add t))
  comes none = subst (λ o. Among t (unless_refused o ts (added ts t))) (sym none) (only_added ts t ordered (welcome yard ts t none).new).0.new

  -- a trip that is among the trips and is not withdrawn stays among them
  pub stays : (c : Call) → Among t ts → (Withdraws c → ⊥) → Among t (after_call yard ts c)
  stays (Add u) a kept = either_way (Among t) (add_refusal yard ts u) ts (added ts u) (λ refused. a) (λ none. (only_added ts u ordered (welcome yard ts u none).new).0.old t a)
  stays (Withdraw n) a kept =
      either_way (Among t) (withdraw_refusal ts n) ts (without ts n)
      (λ refused. a)
      (λ none. (only_without ts n ordered).0.old t a (λ is. kept (ap Withdraw (sym is), leaves ts t.number (number_stands ts t a))))
  stays (SetLimit n) a kept = a
  stays Plan a kept = a

-- the limit after a call is one that it set, or the one before it where it set none
pub limit_left : (c : Call) (old : ℕ) → ((c ≡ SetLimit (limit_after_call old c)) × (limit_refusal (limit_after_call old c) ≡ None)) ⊎ ((limit_after_call old c ≡ old) × ((n : ℕ) → c ≡ SetLimit n → limit_refusal n ≡ None → ⊥))
limit_left (Add t) old = inr (refl, λ n e none. let z : ◌≡◌ {A = ℕ} 0 1 = cc in omega arith)
limit_left (Withdraw n) old = inr (refl, λ n e none. let z : ◌≡◌ {A = ℕ} 0 1 = cc in omega arith)
limit_left (SetLimit n) old =
    either_way (λ m. ((SetLimit n ≡ SetLimit m) × (limit_refusal m ≡ None)) ⊎ ((m ≡ old) × ((k : ℕ) → SetLimit n ≡ SetLimit k → limit_refusal k ≡ None → ⊥))) (limit_refusal n) old n
    (λ refused. inr (refl, λ k e none. let is : k ≡ n = cc in refused (subst (λ m. limit_refusal m ≡ None) is none)))
    (λ none. inl (refl, none))
limit_left Plan old = inr (refl, λ n e none. let z : ◌≡◌ {A = ℕ} 0 1 = cc in omega arith)
