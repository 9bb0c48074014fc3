-- What plan answers tells when exactly hulls are too few, and when exactly a plan is accepted.
use Rattle.std.proofs.Common.{◌≡◌, ℕ, List, ℤ, Err, Result, sym, refl, ap, ◌∙◌, arith}
use Rattle.std.proofs.lemmas.Bool.{false≢true}
use Rattle.faults.specs.declared.fault.Fault.{Fault}
use Rattle.faults.specs.declared.layer.Layer.{Layer}
use Rattle.faults.specs.declared.layer.Layer.TheVariants.{Board}
use Rattle.faults.specs.declared.refusal.Refusal.{Refusal}
use Rattle.faults.specs.declared.refusal.Refusal.TheVariants.{NotServed}
use Rattle.faults.specs.Shown.{fault_at}
use Rattle.trips.specs.declared.trip.Trip.{Trip}
use Rattle.board.specs.Standing.{AllServed}
use Rattle.duties.specs.Plans.{Accepted}
use Rattle.plans.specs.declared.plan.Plan.{Plan}
use Rattle.plans.specs.Terms.{Terms, day_of}
use Rattle.plans.specs.Answers.{Tables, Answers}
use Rattle.plans.specs.Answers.Answers.{not_served, table_too_short, fee_too_high, too_few_hulls, cost_too_high, planned}
use Rattle.plans.specs.Exact.{EveryCoverOver, Exact}

-- one fault has one refusal
same_refusal : {V : Type 0} (layer layer' : Layer) (refusal refusal' : Refusal) (place place' : ℕ)
    → ◌≡◌ {A = Result (Plan V) Fault} (Err (fault_at layer refusal place)) (Err (fault_at layer' refusal' place')) → refusal ≡ refusal'
same_refusal layer layer' refusal refusal' place place' e = let same : fault_at layer refusal place ≡ fault_at layer' refusal' place' = cc in ap (λ f. f.refusal) same

-- an accepted plan is a cover within the limit
one_within : (c : ℕ) (terms : Terms) (ts : List Trip) (limit : ℕ) (table : List ℕ) (prices : List (List ℤ)) (number : ℕ) (cost hull : List ℤ)
    → Accepted c (day_of terms ts) limit table prices number cost hull → EveryCoverOver terms ts limit → ⊥
one_within c terms ts limit table prices number cost hull a over =
    let m = over _ a.cover in
    let e = a.number_is in
    let l = a.within_limit in
    omega arith

module _ {V : Type 0} (row : V → List ℤ) (terms : Terms) (ts : List Trip) (limit : ℕ) (before : Tables V) where
  pub exact : (answer : Result (Plan V) Fault) (after : Tables V) → Answers row terms ts limit before answer after → Exact terms ts limit before answer
  exact answer after (not_served k u) =
      record {
        too_few_when = λ p over. absurd (false≢true (sym u.unserved ∙ p.served k u.within));
        too_few_only = λ fewest e. absurd (let z = same_refusal _ _ _ _ _ _ e in cc);
        else_accepted = λ p some cheap. absurd (false≢true (sym u.unserved ∙ p.served k u.within));
      }
  exact answer after (table_too_short s short) =
      record {
        too_few_when = λ p over. absurd (false≢true (sym p.long ∙ short));
        too_few_only = λ fewest e. absurd (let z = same_refusal _ _ _ _ _ _ e in cc);
        else_accepted = λ p some cheap. absurd (false≢true (sym p.long ∙ short));
      }
  exact answer after (fee_too_high s long high) =
      record {
        too_few_when = λ p over. absurd (false≢true (sym p.fee_within ∙ high));
        too_few_only = λ fewest e. absurd (let z = same_refusal _ _ _ _ _ _ e in cc);
        else_accepted = λ p some cheap. absurd (false≢true (sym p.fee_within ∙ high));
      }
  exact answer after (too_few_hulls p fewest few written same) =
      let over : EveryCoverOver terms ts limit = λ ds c. let l = few.least ds c in let o = few.over in omega arith in
      record {
        too_few_when = λ p o. (fewest, refl);
        too_few_only = λ other e. over;
        else_accepted = λ p some cheap. absurd (some over);
      }
  exact answer after (cost_too_high p dear written same) =
      record {
        too_few_when = λ p over. absurd (one_within _ terms ts limit _ _ _ _ _ dear.accepted over);
        too_few_only = λ fewest e. absurd (let z = same_refusal _ _ _ _ _ _ e in cc);
        else_accepted = λ p some cheap. absurd (cheap dear);
      }
  exact answer after (planned p plan written w within) =
      record {
        too_few_when = λ p over. absurd (one_within _ terms ts limit _ _ _ _ _ w.accepted over);
        too_few_only = λ fewest e. absurd cc;
        else_accepted = λ p some cheap. refl;
      }

  -- where every trip is served, no plan is refused because one is not
  pub never_unserved : (answer : Result (Plan V) Fault) (after : Tables V) → Answers row terms ts limit before answer after → AllServed terms.yard ts
      → (number : ℕ) → answer ≡ Err (fault_at Board NotServed number) → ⊥
  never_unserved answer after (not_served k u) all number e = false≢true (sym u.unserved ∙ all k u.within)
  never_unserved answer after (table_too_short s short) all number e = let z = same_refusal _ _ _ _ _ _ e in cc
  never_unserved answer after (fee_too_high s long high) all number e = let z = same_refusal _ _ _ _ _ _ e in cc
  never_unserved answer after (too_few_hulls p fewest few written same) all number e = let z = same_refusal _ _ _ _ _ _ e in cc
  never_unserved answer after (cost_too_high p dear written same) all number e = let z = same_refusal _ _ _ _ _ _ e in cc
  never_unserved answer after (planned p plan written w within) all number e = cc
