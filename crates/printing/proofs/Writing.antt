-- Text that is written part by part, in a row or by a loop. Assumes nothing.
use Rattle.std.proofs.Common.{◌≡◌, ℕ, Bool, true, List, [], ◌++◌, sym, refl, ap, ◌∙◌, subst, append_assoc, append-nil}
use Rattle.std.specs.declared.fmt.Formatter.{Formatter}
use Rattle.std.specs.Fmt.{IsPlainFormatter, HasWritten}
use Rattle.std.proofs.Output.{writes_in_calls_nil, has_written_append}

-- from f to g a front of the whole was written, and the rest is still to come
abbrev pub Written : {W : Type 0} → (W → List ℕ → W → Type 0) → Formatter W → List ℕ → List ℕ → Formatter W → Type 0
Written took f whole rest g = IsPlainFormatter f → (bs : List ℕ) × HasWritten took f bs g × (bs ++ rest ≡ whole)

-- nothing is written yet
pub begun : {W : Type 0} (took : W → List ℕ → W → Type 0) (f : Formatter W) (whole rest : List ℕ) → rest ≡ whole → Written took f whole rest f
begun took f whole rest e plain = ([], record { wrote = writes_in_calls_nil took f.writer; plain = plain }, e)

-- one part more
pub more : {W : Type 0} (took : W → List ℕ → W → Type 0) (f : Formatter W) (whole rest : List ℕ) (g : Formatter W) (bs left : List ℕ) (h : Formatter W) → Written took f whole rest g → (IsPlainFormatter g → ◌≡◌ {A = Bool} true true → HasWritten took g bs h) → rest ≡ bs ++ left → Written took f whole left h
more took f whole rest g bs left h so put e plain =
    let s = so plain in
    (s.0 ++ bs, has_written_append took f s.0 g bs h s.1 (put s.1.plain refl), append_assoc s.0 bs left ∙ ap (λ l. s.0 ++ l) (sym e) ∙ s.2)

-- nothing is still to come
pub ended : {W : Type 0} (took : W → List ℕ → W → Type 0) (f : Formatter W) (whole rest : List ℕ) (g : Formatter W) → Written took f whole rest g → rest ≡ [] → IsPlainFormatter f → HasWritten took f whole g
ended took f whole rest g so e plain =
    let s = so plain in
    subst (λ l. HasWritten took f l g) (sym (append-nil s.0) ∙ ap (λ l. s.0 ++ l) (sym e) ∙ s.2) s.1
