-- What stands after calls, and which limit is in force, said by the calls alone. Assumes nothing.
use Rattle.std.proofs.Common.{◌≡◌, ℕ, zero, suc, ◌+◌, ◌<◌, ◌≤◌, List, length, get_or, take, None, Option, sym, refl, ap, ◌∙◌, subst, inl, inr, ⊎_elim, add-one, arith}
use Rattle.std.proofs.lemmas.List.{take_all}
use Rattle.std.proofs.lemmas.Bool.{cases_lt}
use Rattle.trips.specs.declared.trip.Trip.{Trip}
use Rattle.rules.specs.declared.rule.YardCents.{YardCents}
use Rattle.board.specs.Refusals.{add_refusal, withdraw_refusal, limit_refusal}
use Rattle.board.specs.Exact.{Among}
use Rattle.board.specs.Standing.{Standing, AllServed}
use Rattle.calls.specs.declared.call.Call.{Call}
use Rattle.calls.specs.declared.call.Call.TheVariants.{Add, Withdraw, SetLimit}
use Rattle.calls.specs.Standing.{after_call, limit_after_call, standing, limit_after, no_call}
use Rattle.history.specs.History.{AddedAt, LimitOf, ByHistory}
use Rattle.calls.proofs.Steps.{standing_more, limit_more}
use Rattle.history.proofs.Kept.{standing_kept, served_kept}
use Rattle.history.proofs.Members.{came, comes, stays, limit_left}

-- the first m calls
record Told (yard : Trip → Option YardCents) (calls : List Call) (m : ℕ) : Type 0 where
  pub stand : Standing (standing yard (take m calls))
  pub served : AllServed yard (standing yard (take m calls))
  pub were_added : (t : Trip) → Among t (standing yard (take m calls)) → (k : ℕ) × AddedAt yard calls m t k
  pub still_stand : (t : Trip) (k : ℕ) → AddedAt yard calls m t k → Among t (standing yard (take m calls))
  pub limit_is : LimitOf calls m (limit_after (take m calls))

module _ (yard : Trip → Option YardCents) (calls : List Call) where
  told_none : Told yard calls 0
  told_none = record {
    stand = record { few = omega arith; ordered = λ i j h. absurd (let w = h.1 in omega arith); differ = λ i j h. absurd (let w = h.1 in omega arith); sound = λ i h. absurd (omega arith) };
    served = λ i h. absurd (omega arith);
    were_added = λ t a. absurd a;
    still_stand = λ t k p. absurd (let w = p.within in omega arith);
    limit_is = inr (λ j other h. absurd (omega arith), refl);
  }

  -- one call more
  module _ (m : ℕ) (lt : m < length calls) (so : Told yard calls m) where
    abbrev stood : List Trip
    stood = standing yard (take m calls)

    abbrev call : Call
    call = get_or calls m no_call

    -- a trip that stands still
    old_at : (t : Trip) (k : ℕ) → AddedAt yard calls m t k → ((call ≡ Withdraw t.number) × (withdraw_refusal stood t.number ≡ None) → ⊥) → AddedAt yard calls (m + 1) t k
    old_at t k p kept = record {
      within = let w = p.within in omega arith;
      call_is = p.call_is;
      accepted = p.accepted;
      kept = λ j a b e none.
          ⊎_elim
          (λ below. p.kept j a below e none)
          (λ at.
          let is : j ≡ m = omega arith in
          kept (subst (λ i. get_or calls i no_call ≡ Withdraw t.number) is e, subst (λ i. withdraw_refusal (standing yard (take i calls)) t.number ≡ None) is none))
          (cases_lt j m);
    }

    -- a trip that the call adds
    new_at : (t : Trip) → call ≡ Add t → add_refusal yard stood t ≡ None → AddedAt yard calls (m + 1) t m
    new_at t is none = record { within = omega arith; call_is = is; accepted = none; kept = λ j a b e. absurd (omega arith) }

    added_more : (t : Trip) → Among t (after_call yard stood call) → (k : ℕ) × AddedAt yard calls (m + 1) t k
    added_more t a =
        ⊎_elim
        (λ new. (m, new_at t new.0 new.1))
        (λ old. let p = so.were_added t old.0 in (p.0, old_at t p.0 p.1 old.1))
        (came yard stood so.stand.ordered t call a)

    stand_more : (t : Trip) (k : ℕ) → AddedAt yard calls (m + 1) t k → Among t (after_call yard stood call)
    stand_more t k p =
        ⊎_elim
        (λ below.
        let earlier : AddedAt yard calls m t k = record { within = below; call_is = p.call_is; accepted = p.accepted; kept = λ j a b. p.kept j a (omega arith) } in
        stays yard stood so.stand.ordered t call (so.still_stand t k earlier) (λ w. p.kept m below (omega arith) w.0 w.1))
        (λ at.
        let w = p.within in
        let is : k ≡ m = omega arith in
        let adds : call ≡ Add t = subst (λ i. get_or calls i no_call ≡ Add t) is p.call_is in
        let none : add_refusal yard stood t ≡ None = subst (λ i. add_refusal yard (standing yard (take i calls)) t ≡ None) is p.accepted in
        subst (λ c. Among t (after_call yard stood c)) (sym adds) (comes yard stood so.stand.ordered t none))
        (cases_lt k m)

    -- no limit set by the call where none was set with success
    none_set : ((n : ℕ) → call ≡ SetLimit n → limit_refusal n ≡ None → ⊥) → (from : ℕ) → ((j other : ℕ) → from ≤ j → j < m → get_or calls j no_call ≡ SetLimit other → limit_refusal other ≡ None → ⊥) → (j other : ℕ) → from ≤ j → j < m + 1 → get_or calls j no_call ≡ SetLimit other → limit_refusal other ≡ None → ⊥
    none_set here from before j other a b e none =
        ⊎_elim (λ below. before j other a below e none) (λ at. let is : j ≡ m = omega arith in here other (subst (λ i. get_or calls i no_call ≡ SetLimit other) is e) none) (cases_lt j m)

    limit_after_lem : (n : ℕ) → LimitOf calls m n → LimitOf calls (m + 1) (limit_after_call n call)
    limit_after_lem n old =
        ⊎_elim
        (λ new. inl (m, record { within = omega arith; call_is = new.0; accepted = new.1; last = λ j other a b e none. omega arith }))
        (λ same.
        ⊎_elim
        (λ set.
        let s = set.1 in
        inl (
          set.0,
          record {
            within = let w = s.within in omega arith;
            call_is = s.call_is ∙ ap SetLimit (sym same.0);
            accepted = subst (λ l. limit_refusal l ≡ None) (sym same.0) s.accepted;
            last = λ j other a. none_set same.1 (suc set.0) (λ i o below. s.last i o (omega arith)) j other (omega arith);
          },
        ))
        (λ unset. inr (λ j other. none_set same.1 0 (λ i o _. unset.0 i o) j other (omega arith), same.0 ∙ unset.1))
        old)
        (limit_left call n)

    told_more : Told yard calls (m + 1)
    told_more =
        let next = sym (standing_more yard calls m lt) in
        record {
          stand = subst Standing next (standing_kept yard stood call so.stand);
          served = subst (AllServed yard) next (served_kept yard stood call so.stand so.served);
          were_added = λ t a. added_more t (subst (Among t) (sym next) a);
          still_stand = λ t k p. subst (Among t) next (stand_more t k p);
          limit_is = subst (LimitOf calls (m + 1)) (sym (limit_more calls m lt)) (limit_after_lem (limit_after (take m calls)) so.limit_is);
        }

  told_upto : (m : ℕ) → m ≤ length calls → Told yard calls m
  told_upto zero le = told_none
  told_upto (suc m) le = subst (Told yard calls) (add-one m) (told_more m (omega arith) (told_upto m (omega arith)))

  -- of all calls
  pub by_history : ByHistory yard calls
  by_history =
      let so = told_upto (length calls) (omega arith) in
      let all : take (length calls) calls ≡ calls = take_all (length calls) calls (omega arith) in
      record {
        stand = subst (λ l. Standing (standing yard l)) all so.stand;
        served = subst (λ l. AllServed yard (standing yard l)) all so.served;
        were_added = λ t a. so.were_added t (subst (λ l. Among t (standing yard l)) (sym all) a);
        still_stand = λ t k p. subst (λ l. Among t (standing yard l)) all (so.still_stand t k p);
        limit_is = subst (λ l. LimitOf calls (length calls) (limit_after l)) all so.limit_is;
      }
