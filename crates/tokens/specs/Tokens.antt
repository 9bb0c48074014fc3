-- The tokens of a sheet. Assumes nothing.
use Rattle.std.specs.Prelude.{◌≡◌, ℕ, ◌+◌, cond, List, [], ◌∷◌, ◌++◌, Some, None, Option}
use Rattle.tokens.specs.declared.reader.Token.{Token}
use Rattle.tokens.specs.declared.reader.Token.TheVariants.{Field, LineEnd}
use Rattle.tokens.specs.declared.reader.Stage.{Stage}
use Rattle.tokens.specs.declared.reader.Stage.TheVariants.{Between, Inside, Ended}
use Rattle.tokens.specs.declared.reader.Reader.{Reader}
use Rattle.tokens.specs.Text.{lines, fields, comment}

-- a token by its bytes: a field's text with its line and its place in the line, or the end of a line
pub data Tok : Type 0 where
  word : List ℕ → ℕ → ℕ → Tok
  stop : ℕ → Tok

-- a token of the code by its bytes
abbrev pub seen : Token → Tok
seen (Field t line n) = word t.now line n
seen (LineEnd line) = stop line

-- the fields of a line, of which the first is field n
abbrev pub words : ℕ → ℕ → List (List ℕ) → List Tok
words line n [] = []
words line n (f ∷ fs) = word f line n ∷ words line (n + 1) fs

-- the tokens of the line n, before those of later lines
abbrev pub line_toks : ℕ → List ℕ → List Tok → List Tok
line_toks n line rest = cond (comment line) rest (words n 1 (fields line) ++ (stop n ∷ rest))

-- the tokens of lines, of which the first is line n
abbrev pub toks : ℕ → List (List ℕ) → List Tok
toks n [] = []
toks n (l ∷ ls) = line_toks n l (toks (n + 1) ls)

-- the tokens of a sheet
abbrev pub tokens_of : List ℕ → List Tok
tokens_of sheet = toks 1 (lines sheet)

-- what is still to come of the line after its field n, with its bytes in body, and of the lines in rest
abbrev pub line_rest : ℕ → ℕ → List ℕ → List ℕ → List Tok
line_rest line n body rest = words line (n + 1) (fields body) ++ (stop line ∷ toks (line + 1) (lines rest))

-- what is still to come of the current line and of the lines in rest
abbrev pub to_come : Stage → ℕ → List ℕ → List Tok
to_come Between line rest = toks (line + 1) (lines rest)
to_come (Inside body n) line rest = line_rest line n body.now rest
to_come Ended line rest = stop line ∷ toks (line + 1) (lines rest)

-- what a reader still hands on
abbrev pub left : Reader → List Tok
left r = to_come r.stage r.line r.rest.now

-- what one call of `next` does: it hands on the first token that was to come
abbrev pub Next : Reader → Option Token → Reader → Type 0
Next r None s = (left r ≡ []) × (left s ≡ [])
Next r (Some t) s = left r ≡ seen t ∷ left s
