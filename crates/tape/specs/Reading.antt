-- How a reader goes through a tape, letter by letter. Holds has what a tape holds in the format's own words. Assumes nothing.
use Rattle.std.specs.Prelude.{ℕ, zero, suc, ◌+◌, Bool, cond, List, [], ◌∷◌, length, take, drop, Some, None, Ok, Err, Option, Result, nat_le, nat_lt}
use Rattle.faults.specs.declared.refusal.Refusal.{Refusal}
use Rattle.faults.specs.declared.refusal.Refusal.TheVariants.{InputTooLong, UnknownLetter, OperandsCutShort}
use Rattle.faults.specs.declared.layer.Layer.TheVariants.{Tape}
use Rattle.faults.specs.declared.fault.Fault.{Fault}
use Rattle.faults.specs.Shown.{fault_at}
use Rattle.tape.specs.declared.kind.Kind.{Kind}
use Rattle.tape.specs.declared.command.Command.{Command}
use Rattle.tape.specs.Kinds.{form, kind_of}
use Rattle.tape.specs.Written.{command_of}

-- what a reader hands on at once
abbrev pub Item : Type 0
Item = Result Command Fault

-- a fault of a tape
abbrev pub tape_fault : Refusal → ℕ → Fault
tape_fault refusal place = fault_at Tape refusal place

-- what a letter of this kind at an offset gives before the bytes bs, of which later skips those that are its operands
abbrev pub begin : Option Kind → ℕ → List ℕ → (ℕ → List Item) → List Item
begin None at bs later = Err (tape_fault UnknownLetter at) ∷ []
begin (Some k) at bs later =
    cond (nat_le (form k).width (length bs)) (Ok (command_of k (take (form k).width bs)) ∷ later (form k).width) (Err (tape_fault OperandsCutShort at) ∷ [])

-- what the bytes from an offset on give, of which the first n are operands of a command before
abbrev pub items : ℕ → ℕ → List ℕ → List Item
items n at [] = []
items zero at (b ∷ bs) = begin (kind_of b) at bs (λ n. items n (at + 1) bs)
items (suc n) at (b ∷ bs) = items n (at + 1) bs

-- what is still to come of a tape from an offset on
abbrev pub to_come : List ℕ → ℕ → List Item
to_come tape at = cond (nat_lt at (length tape)) (items 0 at (drop at tape)) []

-- what is handed on of a tape from an offset on, or of one that is too long
abbrev pub to_hand_on : Bool → List ℕ → ℕ → List Item
to_hand_on overlong tape at = cond overlong (Err (tape_fault InputTooLong 0) ∷ []) (to_come tape at)

-- whether a tape is too long
abbrev pub too_long : List ℕ → Bool
too_long tape = nat_lt 60000 (length tape)

-- what is handed on of a whole tape
abbrev pub all_of : List ℕ → List Item
all_of tape = to_hand_on (too_long tape) tape 0
