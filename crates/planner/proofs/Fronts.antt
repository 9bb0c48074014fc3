-- What tables hold after a search in their fronts.
use Rattle.std.proofs.Common.{◌≡◌, ℕ, List, ◌++◌, map, length, take, drop, ℤ, Ok, Err, Result, sym, ap, ◌∙◌, subst, arith}
use borrow.Rule.Slice.PartMut.{put_mid}
use Rattle.std.proofs.lemmas.List.{take-append-drop}
use Rattle.std.proofs.lemmas.Slice.{drop-append-drop}
use Rattle.std.proofs.Math.Seq.{take-append_seam}
use Rattle.duties.specs.Plans.{Accepted}
use Rattle.trips.specs.declared.trip.Trip.{Trip}
use Rattle.plans.specs.declared.plan.Plan.{Plan}
use Rattle.plans.specs.Terms.{Terms, day_of}
use Rattle.planner.specs.declared.outcome.Unplanned.{Unplanned}
use Rattle.planner.specs.Outcomes.{Comes}
use Rattle.planner.specs.Answered.{Searched}

module _ {X : Type 0} (xs ys : List X) (n : ℕ) where
  -- the front is what was put there
  mid_take : length ys ≡ n → take n (put_mid 0 n xs ys) ≡ ys
  mid_take l = ap (λ m. take m (ys ++ drop n xs)) (sym l) ∙ take-append_seam ys (drop n xs)

  -- a front that is as it was leaves the whole so
  mid_same : ys ≡ take n xs → put_mid 0 n xs ys ≡ xs
  mid_same f = ap (λ l. l ++ drop n xs) f ∙ take-append-drop n xs

module _ {V : Type 0} (row : V → List ℤ) (terms : Terms) (ts : List Trip) (limit : ℕ) (xs ys : List ℕ) (us vs : List V) (ly : length ys ≡ length ts) (lv : length vs ≡ length ts)
    (numbers numbers' : List ℕ) (values values' : List V) where
  abbrev n : ℕ
  n = length ts

  pub in_fronts : (r : Result (Plan V) Unplanned) → Comes row terms.places (day_of terms ts) limit (take n xs) (take n us) r ys vs
      → Searched row terms ts limit (record { successors = xs; prices = us; numbers = numbers; values = values }) r
      (record { successors = put_mid 0 n xs ys; prices = put_mid 0 n us vs; numbers = numbers'; values = values' })
  in_fronts (Ok plan) a = (
    record {
      accepted =
          subst (λ t. Accepted terms.places (day_of terms ts) limit t (map row (take n (put_mid 0 n us vs))) plan.duties (row plan.cost) (row plan.hull_price)) (sym (mid_take xs ys n ly))
          (subst (λ t. Accepted terms.places (day_of terms ts) limit ys (map row t) plan.duties (row plan.cost) (row plan.hull_price)) (sym (mid_take us vs n lv)) a.0);
      past_successors = drop-append-drop n xs ys n (omega arith) ly;
      past_prices = drop-append-drop n us vs n (omega arith) lv;
    },
    a.1,
  )
  in_fronts (Err why) b = (b.0, (mid_same xs ys n b.1, mid_same us vs n b.2))
