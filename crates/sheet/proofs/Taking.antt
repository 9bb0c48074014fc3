-- How the records of a sheet are taken into a space, token by token. Assumes nothing.
use Rattle.std.proofs.Common.{◌≡◌, ℕ, List, [], ◌∷◌, ◌++◌, length, drop, Some, Ok, Err, Option, Result, sym, refl, ap, ◌∙◌, subst}
use Rattle.std.proofs.lemmas.List.{length_push, drop-drop}
use Rattle.faults.specs.declared.fault.Fault.{Fault}
use Rattle.tokens.specs.Text.{lines}
use Rattle.tokens.specs.Tokens.{Tok, stop, tokens_of}
use Rattle.sheet.specs.declared.row.Row.{Row}
use Rattle.sheet.specs.Rules.{Rules}
use Rattle.sheet.specs.Rows.{Holds}
use Rattle.sheet.specs.Reading.{judged, go_on, read_tokens, read_lines}
use Rattle.sheet.specs.Spaces.{Space, with_all, Takes}
use Rattle.sheet.proofs.Tokenwise.{lines_read}

same_space : {R : Type 0} (v w : Space R) → v.kept ≡ w.kept → v.rest ≡ w.rest → v.room ≡ w.room → v.lent ≡ w.lent → v ≡ w
same_space v w a b c d =
    ap (λ k. record { kept = k; rest = v.rest; room = v.room; lent = v.lent }) a
    ∙ ap (λ l. record { kept = w.kept; rest = l; room = v.room; lent = v.lent }) b
    ∙ ap (λ n. record { kept = w.kept; rest = w.rest; room = n; lent = v.lent }) c
    ∙ ap (λ n. record { kept = w.kept; rest = w.rest; room = w.room; lent = n }) d

module _ {R : Type 0} (rules : Rules R) (room : ℕ) (sheet : List ℕ) (first : Space R) where
  -- the row holds the fields so far of the current line, what the sheet says is still to be read from the tokens, and the space has changed in front only
  pub record Taking (row : Row) (now : Space R) (left : List Tok) : Type 0 where
    pub texts : List (List ℕ)
    pub holds : Holds row texts
    pub same : read_tokens rules room texts now.kept left ≡ read_lines rules room 1 [] (lines sheet)
    pub rest : now.rest ≡ drop (length now.kept) first.rest
    pub room_same : now.room ≡ first.room
    pub lent_same : now.lent ≡ first.lent

  pub taking_begun : (row : Row) (left : List Tok) → first.kept ≡ [] → Holds row [] → left ≡ tokens_of sheet → Taking row first left
  taking_begun row left none h e = record {
    texts = [];
    holds = h;
    same = ap (λ qs. read_tokens rules room [] qs left) none ∙ ap (read_tokens rules room [] []) e ∙ lines_read rules room (lines sheet) 1 [];
    rest = ap (λ rs. drop (length rs) first.rest) (sym none);
    room_same = refl;
    lent_same = refl;
  }

  module _ (row : Row) (now : Space R) (left : List Tok) (s : Taking row now left) where
    -- the space as it stands is the first with its records
    pub taking_space : first.kept ≡ [] → (rs : List R) → now.kept ≡ rs → now ≡ with_all first rs
    taking_space none rs is =
        same_space now (with_all first rs) (is ∙ ap (λ l. l ++ rs) (sym none)) (s.rest ∙ ap (λ l. drop (length l) first.rest) is) s.room_same s.lent_same

    module _ (line : ℕ) (later : List Tok) (e : left ≡ stop line ∷ later) where
      judged_here : (o : Result R Fault) → judged rules room line now.kept s.texts ≡ o → go_on rules room o now.kept (λ qs. read_tokens rules room [] qs later) ≡ read_lines rules room 1 [] (lines sheet)
      judged_here o j = ap (λ x. go_on rules room x now.kept (λ qs. read_tokens rules room [] qs later)) (sym j) ∙ sym (ap (read_tokens rules room s.texts now.kept) e) ∙ s.same

      line_taken : {U : Type 0} (o : Result R Fault) (u : U) (w : Space R) (next : Row) → judged rules room line now.kept s.texts ≡ o → Takes o now (Ok u) w → Holds next [] → Taking next w later
      line_taken (Err f) u w next j t h = absurd t
      line_taken (Ok r) u w next j t h = subst (λ v. Taking next v later) (sym t) (record {
        texts = [];
        holds = h;
        same = judged_here (Ok r) j;
        rest = ap (drop 1) s.rest ∙ drop-drop 1 (length now.kept) first.rest ∙ ap (λ n. drop n first.rest) (sym (length_push now.kept r));
        room_same = s.room_same;
        lent_same = s.lent_same;
      })

      -- a line's record is taken
      pub taking_line : {U : Type 0} (u : U) (w : Space R) (next : Row) → Takes (judged rules room line now.kept s.texts) now (Ok u) w → Holds next [] → Taking next w later
      taking_line u w next t h = line_taken (judged rules room line now.kept s.texts) u w next refl t h

      line_refused : (U : Type 0) (o : Result R Fault) (g : Fault) (w : Space R) → judged rules room line now.kept s.texts ≡ o → Takes {U = U} o now (Err g) w → (w ≡ now) × (read_lines rules room 1 [] (lines sheet) ≡ (now.kept, Some g))
      line_refused U (Ok r) g w j t = absurd t
      line_refused U (Err f) g w j t = (t.1, sym (judged_here (Err f) j) ∙ ap (λ x. (now.kept, Some x)) (sym t.0))

      -- a line is refused
      pub taking_refused : (U : Type 0) (g : Fault) (w : Space R) → Takes {U = U} (judged rules room line now.kept s.texts) now (Err g) w → (w ≡ now) × (read_lines rules room 1 [] (lines sheet) ≡ (now.kept, Some g))
      taking_refused U g w t = line_refused U (judged rules room line now.kept s.texts) g w refl t
