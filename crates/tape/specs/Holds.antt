-- What a tape holds: its commands before the first fault, and that fault. Assumes nothing.
use Rattle.std.specs.Prelude.{◌≡◌, ℕ, ◌+◌, ◌<◌, ◌≤◌, ◌⊎◌, List, [], ◌∷◌, ◌++◌, map, length, Some, None, Ok, Err, Option, ◌≢◌}
use Rattle.faults.specs.declared.refusal.Refusal.TheVariants.{InputTooLong, UnknownLetter, OperandsCutShort}
use Rattle.faults.specs.declared.fault.Fault.{Fault}
use Rattle.tape.specs.declared.kind.Kind.{Kind}
use Rattle.tape.specs.declared.command.Command.{Command}
use Rattle.tape.specs.Kinds.{form}
use Rattle.tape.specs.Written.{written_all}
use Rattle.tape.specs.Reading.{Item, tape_fault}

-- what is behind the last command, at the offset n: nothing, a byte that is no kind's letter, or a letter with too few operands
pub data Ends (n : ℕ) : List ℕ → Option Fault → Type 0 where
  whole : Ends n [] None
  unknown : (b : ℕ) (bs : List ℕ) → ((k : Kind) → b ≢ (form k).letter) → Ends n (b ∷ bs) (Some (tape_fault UnknownLetter n))
  short : (k : Kind) (bs : List ℕ) → length bs < (form k).width → Ends n ((form k).letter ∷ bs) (Some (tape_fault OperandsCutShort n))

-- bytes, of which the first is at an offset, are commands one after the other, and an end
pub record HoldsFrom (at : ℕ) (bytes : List ℕ) (cs : List Command) (fault : Option Fault) : Type 0 where
  pub rest : List ℕ
  pub parts : bytes ≡ written_all cs ++ rest
  pub ends : Ends (at + length (written_all cs)) rest fault

-- a tape of at most 60,000 bytes holds what its bytes say, a longer one only that it is too long
abbrev pub Holds : List ℕ → List Command → Option Fault → Type 0
Holds tape cs fault =
    ((length tape ≤ 60000) × HoldsFrom 0 tape cs fault) ⊎ ((60000 < length tape) × (cs ≡ []) × (fault ≡ Some (tape_fault InputTooLong 0)))

-- the commands and the fault that a tape holds, and it holds no others
pub record Reads (tape : List ℕ) (cs : List Command) (fault : Option Fault) : Type 0 where
  pub holds : Holds tape cs fault
  pub only : (ds : List Command) (other : Option Fault) → Holds tape ds other → (ds ≡ cs) × (other ≡ fault)

-- a fault, if there is one, as the last that is handed on
abbrev pub fault_last : Option Fault → List Item
fault_last None = []
fault_last (Some f) = Err f ∷ []

-- commands and then a fault, if there is one, as they are handed on
abbrev pub handed : List Command → Option Fault → List Item
handed cs fault = map Ok cs ++ fault_last fault

-- of a tape these are handed on: the commands and the fault that it holds, and so, of written commands, those
pub record Gives (tape : List ℕ) (all : List Item) : Type 0 where
  pub commands : List Command
  pub fault : Option Fault
  pub reads : Reads tape commands fault
  pub are : all ≡ handed commands fault
  pub back : (cs : List Command) → length tape ≤ 60000 → tape ≡ written_all cs → all ≡ map Ok cs
