-- Lines, fields and trimmed text, each by what it is. Assumes nothing.
use Rattle.std.specs.Prelude.{◌≡◌, ℕ, ◌-◌, ◌<◌, ◌⊎◌, List, [], ◌∷◌, ◌++◌, length, replicate, ◌≢◌, slice_index}
use Rattle.std.specs.List.{AllByRecursion}
use Rattle.tokens.specs.Text.{lines, pieces, trimmed}

abbrev pub Lacks : ℕ → List ℕ → Type 0
Lacks sep bs = AllByRecursion (λ b. b ≢ sep) bs

-- lines, each with its line feed
abbrev pub closed : List (List ℕ) → List ℕ
closed [] = []
closed (l ∷ ls) = l ++ 10 ∷ closed ls

-- the last line may lack its line feed
abbrev pub LinesOf : List ℕ → List (List ℕ) → Type 0
LinesOf sheet ls =
    AllByRecursion (Lacks 10) ls
    × ((sheet ≡ closed ls) ⊎ ((front : List (List ℕ)) × (last : List ℕ) × (ls ≡ front ++ last ∷ []) × (0 < length last) × (sheet ≡ closed front ++ last)))

-- fields with a semicolon between each and the next
abbrev pub joined_by : List ℕ → List (List ℕ) → List ℕ
joined_by p [] = p
joined_by p (q ∷ ps) = p ++ 59 ∷ joined_by q ps

abbrev pub PiecesOf : List ℕ → List (List ℕ) → Type 0
PiecesOf line [] = ⊥
PiecesOf line (p ∷ ps) = AllByRecursion (Lacks 59) (p ∷ ps) × (line ≡ joined_by p ps)

-- t is f without the spaces around it
abbrev pub Trims : List ℕ → List ℕ → Type 0
Trims f t = ((m : ℕ) × (n : ℕ) × (f ≡ replicate m 32 ++ (t ++ replicate n 32))) × (slice_index t 0 ≢ 32) × (slice_index t (length t - 1) ≢ 32)

-- lines and fields are cut so, and in no other way; a trimmed text is its field without the spaces around it
pub record CutRightly : Type 0 where
  pub lines_are : (sheet : List ℕ) → LinesOf sheet (lines sheet)
  pub lines_only : (sheet : List ℕ) (ls : List (List ℕ)) → LinesOf sheet ls → ls ≡ lines sheet
  pub pieces_are : (line : List ℕ) → PiecesOf line (pieces line)
  pub pieces_only : (line : List ℕ) (ps : List (List ℕ)) → PiecesOf line ps → ps ≡ pieces line
  pub trims : (f : List ℕ) → Trims f (trimmed f)
