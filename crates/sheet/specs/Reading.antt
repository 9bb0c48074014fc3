-- How a reader goes through a sheet, token by token and line by line. Says has what a sheet says in the format's own words. Assumes nothing.
use Rattle.std.specs.Prelude.{ℕ, ◌+◌, Bool, true, cond, ◌&&◌, List, [], ◌∷◌, ◌++◌, map, length, is_some, Some, None, Ok, Err, Option, Result, nat_le, nat_lt}
use Rattle.std.specs.Option.{unwrap_or}
use Rattle.faults.specs.declared.refusal.Refusal.{Refusal}
use Rattle.faults.specs.declared.refusal.Refusal.TheVariants.{InputTooLong, FieldCount, NotANumber, OutOfRange, RecordCount}
use Rattle.faults.specs.declared.fault.Fault.{Fault}
use Rattle.faults.specs.Shown.{fault_at}
use Rattle.tokens.specs.Text.{lines, fields, comment, numeral}
use Rattle.tokens.specs.Tokens.{Tok, word, stop}
use Rattle.sheet.specs.Rules.{Rules}

-- whether each field is one to ten digits
abbrev pub numerals : List (List ℕ) → Bool
numerals [] = true
numerals (f ∷ fs) = is_some (numeral f) && numerals fs

abbrev pub number_in : List ℕ → ℕ
number_in f = unwrap_or (numeral f) 0

-- the numbers in the fields
abbrev pub numbers : List (List ℕ) → List ℕ
numbers fs = map number_in fs

-- what is still amiss at the end of a sheet with n records
abbrev pub lacking : {R : Type 0} → Rules R → ℕ → Option Fault
lacking rules n = cond (nat_lt n rules.least) (Some (fault_at rules.layer RecordCount 0)) None

module _ {R : Type 0} (rules : Rules R) (room : ℕ) where
  -- the record, unless something forbids it
  abbrev pub unless : Option Refusal → ℕ → R → Result R Fault
  unless None line r = Ok r
  unless (Some refusal) line r = Err (fault_at rules.layer refusal line)

  -- the record, if there is one and room for it
  abbrev pub kept : Option R → ℕ → List R → Result R Fault
  kept None line rs = Err (fault_at rules.layer OutOfRange line)
  kept (Some r) line rs = cond (nat_lt (length rs) room) (unless (rules.clash rs r) line r) (Err (fault_at rules.layer RecordCount 0))

  -- what the numbers of a line give after the records rs
  abbrev pub admitted : ℕ → List R → List ℕ → Result R Fault
  admitted line rs ns = kept (rules.made line ns) line rs

  -- what the fields of a line give after the records rs
  abbrev pub judged : ℕ → List R → List (List ℕ) → Result R Fault
  judged line rs fs =
      cond (rules.takes (length fs)) (cond (numerals fs) (admitted line rs (numbers fs)) (Err (fault_at rules.layer NotANumber line))) (Err (fault_at rules.layer FieldCount line))

  -- the records and the fault: those of a line that is refused, or of what comes later
  abbrev pub go_on : Result R Fault → List R → (List R → List R × Option Fault) → List R × Option Fault
  go_on (Ok r) rs later = later (rs ++ r ∷ [])
  go_on (Err f) rs later = (rs, Some f)

  abbrev pub at_end : List R → List R × Option Fault
  at_end rs = (rs, lacking rules (length rs))

  -- tokens after the records rs and, of the current line, the fields fs
  abbrev pub read_tokens : List (List ℕ) → List R → List Tok → List R × Option Fault
  read_tokens fs rs [] = at_end rs
  read_tokens fs rs (word t l n ∷ ts) = read_tokens (fs ++ t ∷ []) rs ts
  read_tokens fs rs (stop n ∷ ts) = go_on (judged n rs fs) rs (λ qs. read_tokens [] qs ts)

  -- lines, of which the first is line n, after the records rs
  abbrev pub read_lines : ℕ → List R → List (List ℕ) → List R × Option Fault
  read_lines n rs [] = at_end rs
  read_lines n rs (l ∷ ls) = cond (comment l) (read_lines (n + 1) rs ls) (go_on (judged n rs (fields l)) rs (λ qs. read_lines (n + 1) qs ls))

  abbrev pub read_sheet : List ℕ → List R × Option Fault
  read_sheet sheet = cond (nat_le (length sheet) 60000) (read_lines 1 [] (lines sheet)) ([], Some (fault_at rules.layer InputTooLong 0))
