-- What a reader still hands on. Assumes nothing.
use Rattle.std.specs.Prelude.{◌≡◌, ℕ, List, [], ◌∷◌, true, false, Some, None, Ok, Err, Option}
use Rattle.tape.specs.declared.reader.Place.{Place}
use Rattle.tape.specs.declared.reader.Place.TheVariants.{Overlong, At}
use Rattle.tape.specs.declared.reader.TapeReader.{TapeReader}
use Rattle.tape.specs.Reading.{Item, to_hand_on}

-- what is handed on of a tape from a place on
abbrev pub from_place : List ℕ → Place → List Item
from_place tape Overlong = to_hand_on true tape 0
from_place tape (At at) = to_hand_on false tape at

-- what a reader still hands on
abbrev pub left : TapeReader → List Item
left r = from_place r.tape.now r.place

-- nothing comes after a fault
abbrev pub Stops : Item → List Item → Type 0
Stops (Ok c) later = Unit {0}
Stops (Err f) later = later ≡ []

-- what one call of `next` does: it hands on the first of what was to come
abbrev pub Next : TapeReader → Option Item → TapeReader → Type 0
Next r None s = (left r ≡ []) × (left s ≡ [])
Next r (Some item) s = (left r ≡ item ∷ left s) × Stops item (left s)
