-- Where lines and fields are cut. Assumes nothing.
use Rattle.std.proofs.Common.{◌≡◌, ℕ, suc, ◌+◌, ◌<◌, ◌≤◌, Bool, true, false, cond, not, eqb, List, [], ◌∷◌, ◌++◌, map, length, take, drop, Some, None, Option, unwrap_or, Bor, sym, refl, ap, ◌∙◌, ⊎_elim, one-add, arith}
use Rattle.std.specs.Slice.{IsGetRangeResult}
use Rattle.std.proofs.lemmas.List.{take_all, take_rest, drop_all}
use Rattle.std.proofs.lemmas.Bool.{cases_lt}
use Rattle.tokens.specs.Text.{on_first, lines, pieces, trimmed, before, comment}
use Rattle.tokens.specs.Tokens.{word, stop, words, line_toks, toks, line_rest}

cut_step : (t : Bool) (b : ℕ) (bs : List ℕ) (k : ℕ) (F : List ℕ → List (List ℕ)) → (t ≡ false → F bs ≡ take k bs ∷ F (drop (k + 1) bs)) → cond t ([] ∷ F bs) (on_first b (F bs)) ≡ take (cond (not t) (1 + k) 0) (b ∷ bs) ∷ F (drop (cond (not t) (1 + k) 0 + 1) (b ∷ bs))
cut_step true b bs k F ih = refl
cut_step false b bs k F ih =
    let e : 1 + k ≡ suc k = one-add k in
    let f : 1 + k + 1 ≡ suc (k + 1) = omega arith in
    ap (on_first b) (ih refl) ∙ sym (ap (λ i. take i (b ∷ bs) ∷ F (drop (1 + k + 1) (b ∷ bs))) e ∙ ap (λ i. take (suc k) (b ∷ bs) ∷ F (drop i (b ∷ bs))) f)

one_less : (t : Bool) (k n : ℕ) → cond (not t) (1 + k) 0 < suc n → t ≡ false → k < n
one_less true k n h e = let z : ◌≡◌ {A = ℕ} 0 1 = cc in absurd (omega arith)
one_less false k n h e = omega arith

-- F splits at sep
module _ (sep : ℕ) (F : List ℕ → List (List ℕ)) (clause : (b : ℕ) (bs : List ℕ) → F (b ∷ bs) ≡ cond (eqb b sep) ([] ∷ F bs) (on_first b (F bs))) where
  pub cut_more : (bs : List ℕ) → before sep bs < length bs → F bs ≡ take (before sep bs) bs ∷ F (drop (before sep bs + 1) bs)
  cut_more [] h = absurd (omega arith)
  cut_more (b ∷ bs) h = clause b bs ∙ cut_step (eqb b sep) b bs (before sep bs) F (λ e. cut_more bs (one_less (eqb b sep) (before sep bs) (length bs) h e))

last_step : (t : Bool) (b : ℕ) (bs : List ℕ) (k : ℕ) (ps qs : List (List ℕ)) → suc (length bs) ≤ cond (not t) (1 + k) 0 → (length bs ≤ k → ps ≡ bs ∷ qs) → cond t ([] ∷ ps) (on_first b ps) ≡ (b ∷ bs) ∷ qs
last_step true b bs k ps qs h ih = absurd (omega arith)
last_step false b bs k ps qs h ih = ap (on_first b) (ih (omega arith))

pub pieces_last : (bs : List ℕ) → length bs ≤ before 59 bs → pieces bs ≡ bs ∷ []
pieces_last [] h = refl
pieces_last (b ∷ bs) h = last_step (eqb b 59) b bs (before 59 bs) (pieces bs) [] h (pieces_last bs)

lines_one : (t : Bool) (b : ℕ) → 1 ≤ cond (not t) (1 + 0) 0 → cond t ([] ∷ []) ((b ∷ []) ∷ []) ≡ (b ∷ []) ∷ []
lines_one true b h = absurd (omega arith)
lines_one false b h = refl

pub lines_last : (bs : List ℕ) → 0 < length bs → length bs ≤ before 10 bs → lines bs ≡ bs ∷ []
lines_last [] h g = absurd (omega arith)
lines_last (b ∷ []) h g = lines_one (eqb b 10) b g
lines_last (b ∷ c ∷ bs) h g = last_step (eqb b 10) b (c ∷ bs) (before 10 (c ∷ bs)) (lines (c ∷ bs)) [] g (lines_last (c ∷ bs) (omega arith))

-- a line is cut off, and its line feed with it
pub lines_cut : (bs : List ℕ) (k : ℕ) → k ≡ before 10 bs → 0 < length bs → lines bs ≡ take k bs ∷ lines (drop (k + 1) bs)
lines_cut bs k e some =
    let at : lines bs ≡ take (before 10 bs) bs ∷ lines (drop (before 10 bs + 1) bs) = ⊎_elim
    (λ h. cut_more 10 lines (λ b cs. refl) bs h)
    (λ h. lines_last bs some h ∙ sym (ap (λ l. l ∷ lines (drop (before 10 bs + 1) bs)) (take_all _ bs h) ∙ ap (λ l. bs ∷ lines l) (drop_all (before 10 bs + 1) bs (omega arith))))
    (cases_lt (before 10 bs) (length bs)) in
    at ∙ ap (λ i. take i bs ∷ lines (drop (i + 1) bs)) (sym e)

-- the bytes of a field: k stand before the next semicolon
module _ (line n : ℕ) (body rest text : List ℕ) (k : ℕ) (at : k ≡ before 59 body) (is : text ≡ trimmed (take k body)) where
  -- a field that a semicolon ends
  pub field_more : (after : List ℕ) → k < length body → after ≡ drop (k + 1) body → line_rest line n body rest ≡ word text line (n + 1) ∷ line_rest line (n + 1) after rest
  field_more after h e =
      let p : pieces body ≡ take k body ∷ pieces after = cut_more 59 pieces (λ b cs. refl) body (omega arith) ∙ ap (λ i. take i body ∷ pieces (drop (i + 1) body)) (sym at) ∙ ap (λ l. take k body ∷ pieces l) (sym e) in
      ap (λ ps. words line (n + 1) (map trimmed ps) ++ (stop line ∷ toks (line + 1) (lines rest))) p
      ∙ ap (λ t. word t line (n + 1) ∷ line_rest line (n + 1) after rest) (sym is)

  -- the last field of a line
  pub field_last : length body ≤ k → line_rest line n body rest ≡ word text line (n + 1) ∷ (stop line ∷ toks (line + 1) (lines rest))
  field_last h =
      let p : pieces body ≡ take k body ∷ [] = pieces_last body (omega arith) ∙ ap (λ l. l ∷ []) (sym (take_all k body h)) in
      ap (λ ps. words line (n + 1) (map trimmed ps) ++ (stop line ∷ toks (line + 1) (lines rest))) p
      ∙ ap (λ t. word t line (n + 1) ∷ (stop line ∷ toks (line + 1) (lines rest))) (sym is)

-- the bytes after the next line feed, if there is one
pub rest_is : (bs : List ℕ) (k : ℕ) (found : Option (Bor (List ℕ))) (none rest : Bor (List ℕ)) → none.now ≡ [] → IsGetRangeResult bs (k + 1) (length bs) found → rest ≡ unwrap_or found none → rest.now ≡ drop (k + 1) bs
rest_is bs k None none rest e h is = ap (λ r. r.now) is ∙ e ∙ sym (drop_all (k + 1) bs (omega (arith, h.0)))
rest_is bs k (Some r) none rest e h is = ap (λ r. r.now) is ∙ h.0.2 ∙ take_rest bs (k + 1)

-- one line more is begun: k bytes stand before the next line feed
module _ (line : ℕ) (rest text after : List ℕ) (k : ℕ) (some : 0 < length rest) (at : k ≡ before 10 rest) (is : text ≡ take k rest) (next : after ≡ drop (k + 1) rest) where
  cut_line : toks (line + 1) (lines rest) ≡ line_toks (line + 1) text (toks (line + 1 + 1) (lines after))
  cut_line = ap (toks (line + 1)) (lines_cut rest k at some ∙ ap (λ l. l ∷ lines (drop (k + 1) rest)) (sym is) ∙ ap (λ l. text ∷ lines l) (sym next))

  pub line_skip : comment text ≡ true → toks (line + 1) (lines rest) ≡ toks (line + 1 + 1) (lines after)
  line_skip t = cut_line ∙ ap (λ b. cond b (toks (line + 1 + 1) (lines after)) (line_rest (line + 1) 0 text after)) t

  pub line_found : comment text ≡ false → toks (line + 1) (lines rest) ≡ line_rest (line + 1) 0 text after
  line_found t = cut_line ∙ ap (λ b. cond b (toks (line + 1 + 1) (lines after)) (line_rest (line + 1) 0 text after)) t
