-- What is printed of what was heard. Assumes nothing.
use Rattle.std.specs.Prelude.{ℕ, List, [], ◌∷◌, ◌++◌, length, take, ℤ, Some, None, Ok, Err, codes, Option, Result, ◌≡◌, IfOk}
use Rattle.std.specs.Result.{IsOkAnd}
use Rattle.faults.specs.declared.fault.Fault.{Fault}
use Rattle.faults.specs.Shown.{fault_line}
use Rattle.trips.specs.declared.trip.Trip.{Trip}
use Rattle.calls.specs.declared.answer.Done.TheVariants.{Altered, Planned}
use Rattle.runs.specs.Heard.{Answer, Heard}
use Rattle.plan_report.specs.Lines.{plan_text}

-- the lines of an answer, where these trips stand and the table of successors holds this: ok, a fault, or the plan
abbrev pub answer_text : {V : Type 0} → (V → List ℤ) → Answer V → List Trip → List ℕ → List ℕ
answer_text row (Ok Altered) ts successors = codes "ok" ++ (10 ∷ [])
answer_text row (Ok (Planned plan)) ts successors = plan_text (take (length ts) successors) ts plan.duties (row plan.cost)
answer_text row (Err fault) ts successors = fault_line fault

-- the lines of what was heard of one call
abbrev pub heard_text : {V : Type 0} → (V → List ℤ) → Heard V → List ℕ
heard_text row h = answer_text row h.answer h.trips h.successors

-- the lines of all that was heard, one after the other
abbrev pub heard_texts : {V : Type 0} → (V → List ℤ) → List (Heard V) → List ℕ
heard_texts row [] = []
heard_texts row (h ∷ hs) = heard_text row h ++ heard_texts row hs

-- the line of a tape's fault, if it has one
abbrev pub fault_last : Option Fault → List ℕ
fault_last None = []
fault_last (Some fault) = fault_line fault

-- If there is a text after, there was one before, which has been added to.
abbrev pub Added : {A E : Type 0} → (A → List ℕ) → Result A E → Result A E → List ℕ → Type 0
Added bytes before after more = IfOk after (λ text. IsOkAnd before (λ earlier. bytes text ≡ bytes earlier ++ more))
