-- That reading a sheet by its tokens is reading it by its lines. Assumes nothing.
use Rattle.std.proofs.Common.{◌≡◌, ℕ, ◌+◌, Bool, true, false, cond, List, [], ◌∷◌, ◌++◌, Ok, Err, Option, Result, sym, refl, ap, ◌∙◌, append_assoc, append-nil}
use Rattle.faults.specs.declared.fault.Fault.{Fault}
use Rattle.tokens.specs.Text.{fields, comment}
use Rattle.tokens.specs.Tokens.{Tok, stop, words, toks}
use Rattle.sheet.specs.Rules.{Rules}
use Rattle.sheet.specs.Reading.{judged, go_on, read_tokens, read_lines}

module _ {R : Type 0} (rules : Rules R) (room : ℕ) where
  go_on_same : (o : Result R Fault) (rs : List R) (f g : List R → List R × Option Fault) → ((qs : List R) → f qs ≡ g qs) → go_on rules room o rs f ≡ go_on rules room o rs g
  go_on_same (Ok r) rs f g h = h (rs ++ r ∷ [])
  go_on_same (Err e) rs f g h = refl

  words_read : (line n : ℕ) (gs fs : List (List ℕ)) (rs : List R) (ts : List Tok) → read_tokens rules room fs rs (words line n gs ++ ts) ≡ read_tokens rules room (fs ++ gs) rs ts
  words_read line n [] fs rs ts = ap (λ l. read_tokens rules room l rs ts) (sym (append-nil fs))
  words_read line n (g ∷ gs) fs rs ts = words_read line (n + 1) gs (fs ++ g ∷ []) rs ts ∙ ap (λ l. read_tokens rules room l rs ts) (append_assoc fs (g ∷ []) gs)

  line_read : (b : Bool) (n : ℕ) (rs : List R) (fs : List (List ℕ)) (ts : List Tok) (later : List R → List R × Option Fault) → ((qs : List R) → read_tokens rules room [] qs ts ≡ later qs) →
      read_tokens rules room [] rs (cond b ts (words n 1 fs ++ (stop n ∷ ts))) ≡ cond b (later rs) (go_on rules room (judged rules room n rs fs) rs later)
  line_read true n rs fs ts later h = h rs
  line_read false n rs fs ts later h = words_read n 1 fs [] rs (stop n ∷ ts) ∙ go_on_same (judged rules room n rs fs) rs (λ qs. read_tokens rules room [] qs ts) later h

  pub lines_read : (ls : List (List ℕ)) (n : ℕ) (rs : List R) → read_tokens rules room [] rs (toks n ls) ≡ read_lines rules room n rs ls
  lines_read [] n rs = refl
  lines_read (l ∷ ls) n rs = line_read (comment l) n rs (fields l) (toks (n + 1) ls) (λ qs. read_lines rules room (n + 1) qs ls) (λ qs. lines_read ls (n + 1) qs)
