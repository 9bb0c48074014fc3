-- One call more of a run.
use Rattle.std.proofs.Common.{◌≡◌, ℕ, ◌+◌, ◌<◌, List, [], ◌∷◌, ◌++◌, length, get_or, take, ℤ, Result, sym, refl, ap, ◌∙◌, subst, ⊎_elim, arith}
use Rattle.std.proofs.lemmas.List.{length-append, get_or_append_left}
use Rattle.std.proofs.lemmas.Fn.{FoldsTo-push}
use Rattle.std.proofs.Math.Seq.{get_or-append_seam}
use Rattle.std.proofs.lemmas.Bool.{cases_lt}
use Rattle.faults.specs.declared.fault.Fault.{Fault}
use Rattle.trips.specs.declared.trip.Trip.{Trip}
use Rattle.board.specs.Standing.{AllServed}
use Rattle.plans.specs.Terms.{Terms}
use Rattle.plans.specs.Answers.{Tables}
use Rattle.plans.proofs.Exactly.{exact, never_unserved}
use Rattle.calls.specs.declared.call.Call.{Call}
use Rattle.calls.specs.declared.call.Call.TheVariants.{Add, Withdraw, SetLimit, Plan}
use Rattle.calls.specs.Standing.{standing, limit_after, no_call}
use Rattle.runs.specs.Heard.{Heard}
use Rattle.runs.specs.Right.{RightDone, RightPlan, Right}
use Rattle.runs.specs.Step.{Leaves, Plans, Step}
use Rattle.runs.specs.Ran.{RightUpto, Told}

-- ---- what is right to hear, from what a call does

module _ {V : Type 0} (row : V → List ℤ) (terms : Terms) (ts : List Trip) (limit : ℕ) (before after : Tables V) (last now' : Heard V)
    (ls : before.successors ≡ last.successors) (lp : before.prices ≡ last.prices) (ns : after.successors ≡ now'.successors) (np : after.prices ≡ now'.prices) where
  right_done : (result : Result (Unit {0}) Fault) → Leaves result before now'.answer after → RightDone result last now'
  right_done result s =
      record {
        answer_is = s.0;
        same_successors = sym ns ∙ ap (λ t. t.successors) s.1 ∙ ls;
        same_prices = sym np ∙ ap (λ t. t.prices) s.1 ∙ lp;
      }

  right_plan : AllServed terms.yard ts → length after.numbers ≡ length before.numbers → length after.values ≡ length before.values
      → Plans row terms ts limit before now'.answer after → RightPlan row terms ts limit (length before.numbers) (length before.values) last now'
  right_plan all en ev s =
      record {
        result = s.0;
        answer_is = s.1;
        tables = before;
        found = record { successors_are = ls; prices_are = lp; numbers_long = refl; values_long = refl };
        tables_after = after;
        left = record { successors_are = ns; prices_are = np; numbers_long = en; values_long = ev };
        answers = s.2;
        exact = exact row terms ts limit before s.0 after s.2;
        served = never_unserved row terms ts limit before s.0 after s.2 all;
      }

  pub right_from : (call : Call) → AllServed terms.yard ts → length after.numbers ≡ length before.numbers → length after.values ≡ length before.values
      → Step row terms ts limit call before now'.answer after → Right row terms ts limit (length before.numbers) (length before.values) call last now'
  right_from (Add t) all en ev s = right_done _ s
  right_from (Withdraw n) all en ev s = right_done _ s
  right_from (SetLimit n) all en ev s = right_done _ s
  right_from Plan all en ev s = right_plan all en ev s

-- the same where trips, limit and lengths are said otherwise
pub right_at : {V : Type 0} (row : V → List ℤ) (terms : Terms) (call : Call) (last now' : Heard V) (ts ts' : List Trip) (limit limit' numbers numbers' values values' : ℕ)
    → ts ≡ ts' → limit ≡ limit' → numbers ≡ numbers' → values ≡ values' → Right row terms ts limit numbers values call last now' → Right row terms ts' limit' numbers' values' call last now'
right_at row terms call last now' ts ts' limit limit' numbers numbers' values values' et el en ev r =
    subst (λ v. Right row terms ts' limit' numbers' v call last now') ev
    (subst (λ n. Right row terms ts' limit' n values call last now') en
    (subst (λ l. Right row terms ts' l numbers values call last now') el
    (subst (λ s. Right row terms s limit numbers values call last now') et r)))

-- ---- one thing more heard

-- the last of a list with one thing more
at_last : {X : Type 0} (xs : List X) (x d : X) (k : ℕ) → length xs ≡ k → get_or (xs ++ (x ∷ [])) k d ≡ x
at_last xs x d k e = ap (λ i. get_or (xs ++ (x ∷ [])) i d) (sym e) ∙ get_or-append_seam xs x [] d

module _ {V : Type 0} (row : V → List ℤ) (terms : Terms) (numbers values : ℕ) (calls : List Call) (start : Heard V) where
  -- what is right at place k, of what was heard from the start on
  abbrev RightAt : ℕ → Heard V → Heard V → Type 0
  RightAt k b a = Right row terms (standing terms.yard (take k calls)) (limit_after (take k calls)) numbers values (get_or calls k no_call) b a

  upto_more : (m : ℕ) (hs : List (Heard V)) (h : Heard V) → RightUpto row terms numbers values calls start m hs → RightAt m (get_or (start ∷ hs) m start) h
      → h.trips ≡ standing terms.yard (take (m + 1) calls) → RightUpto row terms numbers values calls start (m + 1) (hs ++ (h ∷ []))
  upto_more m hs h so right' trips' =
      let e = so.one_each in
      let same : (k : ℕ) → k < m + 1 → get_or (start ∷ (hs ++ (h ∷ []))) k start ≡ get_or (start ∷ hs) k start = λ k l. get_or_append_left (start ∷ hs) (h ∷ []) start k (omega arith) in
      record {
        one_each = length-append hs (h ∷ []) ∙ ap (λ k. k + 1) e;
        right = λ k l.
            ⊎_elim
            (λ b. subst (λ x. RightAt k x (get_or (start ∷ (hs ++ (h ∷ []))) (k + 1) start)) (sym (same k (omega arith))) (subst (RightAt k (get_or (start ∷ hs) k start)) (sym (same (k + 1) (omega arith))) (so.right k b)))
            (λ f.
            let is : m ≡ k = omega arith in
            subst (λ j. RightAt j (get_or (start ∷ (hs ++ (h ∷ []))) j start) (get_or (start ∷ (hs ++ (h ∷ []))) (j + 1) start)) is
            (subst (λ x. RightAt m x (get_or (start ∷ (hs ++ (h ∷ []))) (m + 1) start)) (sym (same m (omega arith)))
            (subst (RightAt m (get_or (start ∷ hs) m start)) (sym (at_last (start ∷ hs) h start (m + 1) (omega arith))) right')))
            (cases_lt k m);
        stood = λ k l.
            ⊎_elim
            (λ b. ap (λ x. x.trips) (get_or_append_left hs (h ∷ []) start k (omega arith)) ∙ so.stood k b)
            (λ f. let is : m ≡ k = omega arith in subst (λ j. (get_or (hs ++ (h ∷ [])) j start).trips ≡ standing terms.yard (take (j + 1) calls)) is (ap (λ x. x.trips) (at_last hs h start m e) ∙ trips'))
            (cases_lt k m);
      }

  pub told_none : {S : Type 0} (told : S → Heard V → S → Type 0) (s : S) → Told told row terms numbers values calls start 0 s s start.successors start.prices
  told_none told s = record { heard = []; chain = refl; all_right = record { one_each = refl; right = λ k l. absurd (omega arith); stood = λ k l. absurd (omega arith) }; last_successors = refl; last_prices = refl }

  pub told_more : {S : Type 0} (told : S → Heard V → S → Type 0) (m : ℕ) (s t u : S) (successors : List ℕ) (prices : List V) (h : Heard V)
      → (p : Told told row terms numbers values calls start m s t successors prices) → told t h u
      → ((last : Heard V) → successors ≡ last.successors → prices ≡ last.prices → RightAt m last h)
      → h.trips ≡ standing terms.yard (take (m + 1) calls) → Told told row terms numbers values calls start (m + 1) s u h.successors h.prices
  told_more told m s t u successors prices h p step right' trips' =
      let e = p.all_right.one_each in
      let last = sym (at_last (start ∷ p.heard) h start (m + 1) (omega arith)) in
      record {
        heard = p.heard ++ (h ∷ []);
        chain = FoldsTo-push told s p.heard t h u p.chain step;
        all_right = upto_more m p.heard h p.all_right (right' (get_or (start ∷ p.heard) m start) p.last_successors p.last_prices) trips';
        last_successors = ap (λ x. x.successors) last;
        last_prices = ap (λ x. x.prices) last;
      }

  -- where the calls are all done
  pub told_all : {S : Type 0} (told : S → Heard V → S → Type 0) (m : ℕ) (s t : S) (successors : List ℕ) (prices : List V) → m ≡ length calls
      → Told told row terms numbers values calls start m s t successors prices → Told told row terms numbers values calls start (length calls) s t successors prices
  told_all told m s t successors prices e p = subst (λ k. Told told row terms numbers values calls start k s t successors prices) e p
