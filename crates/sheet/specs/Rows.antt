-- What a row holds of a line's fields. Assumes nothing.
use Rattle.std.specs.Prelude.{◌≡◌, ℕ, List, [], ◌∷◌, map, take, Some, None, Option, option_map}
use Rattle.arrayvec.specs.ArrayVec.{ArrayVec}
use Rattle.sheet.specs.declared.row.Row.{Row}
use Rattle.tokens.specs.Text.{numeral}

-- the row of a line with the fields fs
abbrev pub Holds : Row → List (List ℕ) → Type 0
Holds row fs = row.fields.items ≡ take 9 (map numeral fs)

-- the numbers, if each is given
abbrev pub all_given : List (Option ℕ) → Option (List ℕ)
all_given [] = Some []
all_given (None ∷ os) = None
all_given (Some n ∷ os) = option_map (λ ns. n ∷ ns) (all_given os)

abbrev pub items_of : ArrayVec ℕ → List ℕ
items_of v = v.items
