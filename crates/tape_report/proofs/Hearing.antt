-- What a page holds after all that it heard.
use Rattle.std.proofs.Common.{◌≡◌, ℕ, List, [], ◌∷◌, ◌++◌, length, ℤ, Ok, Err, Result, IfOk, string_bytes, sym, ap, ◌∙◌, subst, append_assoc, append-nil}
use Rattle.std.specs.List.{FoldsTo}
use Rattle.calls.specs.declared.call.Call.{Call}
use Rattle.plans.specs.Terms.{Terms}
use Rattle.runs.specs.Heard.{Heard}
use Rattle.runs.specs.Ran.{RightUpto}
use Rattle.tape_report.specs.declared.page.Page.{Page}
use Rattle.tape_report.specs.Prints.{CallLines}
use Rattle.tape_report.specs.Texts.{Added, heard_text, heard_texts}

module _ {A E : Type 0} (bytes : A → List ℕ) where
  none_added : (s : Result A E) → Added bytes s s []
  none_added (Ok text) = sym (append-nil (bytes text))
  none_added (Err error) = tt

  more_added : (s u t : Result A E) (xs ys : List ℕ) → Added bytes s u xs → Added bytes u t ys → Added bytes s t (xs ++ ys)
  more_added (Ok s) (Ok u) (Ok t) xs ys p q = q ∙ ap (λ bs. bs ++ ys) p ∙ append_assoc (bytes s) xs ys
  more_added (Err d) (Ok u) (Ok t) xs ys p q = absurd p
  more_added s (Err d) (Ok t) xs ys p q = absurd q
  more_added s u (Err d) xs ys p q = tt

pub all_added : {V : Type 0} (row : V → List ℤ) (s : Page) (hs : List (Heard V)) (t : Page) → FoldsTo (λ (a : Page) h (b : Page). Added string_bytes a.text b.text (heard_text row h)) s hs t
    → Added string_bytes s.text t.text (heard_texts row hs)
all_added row s [] t e = subst (λ (p : Page). Added string_bytes s.text p.text []) e (none_added string_bytes s.text)
all_added row s (h ∷ hs) t c = more_added string_bytes s.text c.0.text t.text (heard_text row h) (heard_texts row hs) c.1 (all_added row c.0 hs t c.2)

-- the same where the lengths of the work tables are said otherwise
pub right_with : {V : Type 0} (row : V → List ℤ) (terms : Terms) (calls : List Call) (start : Heard V) (hs : List (Heard V)) (n n' v v' : ℕ) → n ≡ n' → v ≡ v'
    → RightUpto row terms n v calls start (length calls) hs → RightUpto row terms n' v' calls start (length calls) hs
right_with row terms calls start hs n n' v v' en ev r = subst (λ y. RightUpto row terms n' y calls start (length calls) hs) ev (subst (λ x. RightUpto row terms x v calls start (length calls) hs) en r)

-- the text on a page that was blank has the lines of all that was heard
pub lines_heard : {A E V : Type 0} (bytes : A → List ℕ) (row : V → List ℤ) (terms : Terms) (calls : List Call) (blank : A) (text : Result A E) (heard : List (Heard V)) → bytes blank ≡ []
    → Added bytes (Ok blank) text (heard_texts row heard) → CallLines row terms calls (heard_texts row heard) → IfOk text (λ whole. CallLines row terms calls (bytes whole))
lines_heard bytes row terms calls blank (Ok whole) heard e added lines = subst (CallLines row terms calls) (sym (added ∙ ap (λ bs. bs ++ heard_texts row heard) e)) lines
lines_heard bytes row terms calls blank (Err error) heard e added lines = tt
