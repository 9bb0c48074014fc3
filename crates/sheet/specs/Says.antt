-- What a sheet says: the records of the lines before the first faulty one, and its fault. Assumes nothing.
use Rattle.std.specs.Prelude.{◌≡◌, ℕ, ◌+◌, ◌<◌, ◌≤◌, min, true, false, ◌⊎◌, List, [], ◌∷◌, ◌++◌, map, length, take, drop, Some, None, Option, slice_index_or}
use Rattle.faults.specs.declared.refusal.Refusal.{Refusal}
use Rattle.faults.specs.declared.refusal.Refusal.TheVariants.{InputTooLong, FieldCount, NotANumber, OutOfRange, RecordCount}
use Rattle.faults.specs.declared.fault.Fault.{Fault}
use Rattle.faults.specs.Shown.{fault_at}
use Rattle.tokens.specs.Text.{lines, fields, comment, numeral}
use Rattle.sheet.specs.Rules.{Rules}

-- ns are the numbers in the fields, each of one to ten digits
abbrev pub Numbers : List (List ℕ) → List ℕ → Type 0
Numbers fs ns = map numeral fs ≡ map Some ns

-- over a kind of sheet with room for so many records
module _ {R : Type 0} (rules : Rules R) (room : ℕ) where
  -- the numbers ns of a line give the record r after the records rs
  pub record Admits (line : ℕ) (rs : List R) (ns : List ℕ) (r : R) : Type 0 where
    pub is : rules.made line ns ≡ Some r
    pub few : length rs < room
    pub free : rules.clash rs r ≡ None

  -- the first refusal of such numbers
  pub data Rejects (line : ℕ) (rs : List R) (ns : List ℕ) : Fault → Type 0 where
    range : rules.made line ns ≡ None → Rejects line rs ns (fault_at rules.layer OutOfRange line)
    full : (r : R) → rules.made line ns ≡ Some r → room ≤ length rs → Rejects line rs ns (fault_at rules.layer RecordCount 0)
    clash : (r : R) (f : Refusal) → rules.made line ns ≡ Some r → length rs < room → rules.clash rs r ≡ Some f → Rejects line rs ns (fault_at rules.layer f line)

  -- a line with the fields fs gives the record r after the records rs
  pub record Gives (line : ℕ) (rs : List R) (fs : List (List ℕ)) (r : R) : Type 0 where
    pub ns : List ℕ
    pub count : rules.takes (length fs) ≡ true
    pub numbers : Numbers fs ns
    pub admits : Admits line rs ns r

  -- the first refusal of such a line
  pub data Refuses (line : ℕ) (rs : List R) (fs : List (List ℕ)) : Fault → Type 0 where
    count : rules.takes (length fs) ≡ false → Refuses line rs fs (fault_at rules.layer FieldCount line)
    number : (k : ℕ) → rules.takes (length fs) ≡ true → k < length fs → numeral (slice_index_or fs k []) ≡ None → Refuses line rs fs (fault_at rules.layer NotANumber line)
    record' : (ns : List ℕ) (f : Fault) → rules.takes (length fs) ≡ true → Numbers fs ns → Rejects line rs ns f → Refuses line rs fs f

  -- lines, of which the first is line n, after the records rs, each of them a comment or with a record: qs are the records then
  abbrev pub Gave : ℕ → List R → List (List ℕ) → List R → Type 0
  Gave n rs [] qs = qs ≡ rs
  Gave n rs (l ∷ ls) qs = ((comment l ≡ true) × Gave (n + 1) rs ls qs) ⊎ ((comment l ≡ false) × ((r : R) × Gives n rs (fields l) r × Gave (n + 1) (rs ++ r ∷ []) ls qs))

  -- how such lines end after k of them, with the records rs: there are no more, or the next is refused
  abbrev pub Ends : ℕ → List (List ℕ) → ℕ → List R → Option Fault → Type 0
  Ends n ls k rs None = (k ≡ length ls) × (rules.least ≤ length rs)
  Ends n ls k rs (Some f) =
      ((k ≡ length ls) × (length rs < rules.least) × (f ≡ fault_at rules.layer RecordCount 0))
      ⊎ ((k < length ls) × (comment (slice_index_or ls k []) ≡ false) × Refuses (n + k) rs (fields (slice_index_or ls k [])) f)

  -- k lines stand before the first that is refused, and give the records rs
  pub record SaysLines (ls : List (List ℕ)) (rs : List R) (fault : Option Fault) : Type 0 where
    pub k : ℕ
    pub gave : Gave 1 [] (take k ls) rs
    pub ends : Ends 1 ls k rs fault

  -- a sheet of at most 60,000 bytes says what its lines say, a longer one only that it is too long
  abbrev pub Says : List ℕ → List R → Option Fault → Type 0
  Says sheet rs fault =
      ((length sheet ≤ 60000) × SaysLines (lines sheet) rs fault) ⊎ ((60000 < length sheet) × (rs ≡ []) × (fault ≡ Some (fault_at rules.layer InputTooLong 0)))

  -- the records and the fault that a sheet says, and no other are said
  pub record Reads (sheet : List ℕ) (rs : List R) (fault : Option Fault) : Type 0 where
    pub says : Says sheet rs fault
    pub only : (qs : List R) (other : Option Fault) → Says sheet qs other → (qs ≡ rs) × (other ≡ fault)

-- a table after a sheet was read into it: in front what the sheet says, with room for as many records as the table has entries, and all else as it was
pub record Fills {R : Type 0} (rules : Rules R) (sheet : List ℕ) (before : List R) (count : ℕ) (fault : Option Fault) (after : List R) : Type 0 where
  pub reads : Reads rules (min rules.most (length before)) sheet (take count after) fault
  pub within : count ≤ length before
  pub long : length after ≡ length before
  pub rest : drop count after ≡ drop count before
