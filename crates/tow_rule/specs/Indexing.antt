-- What comes of making the index of a list of links. Assumes nothing.
use Rattle.std.specs.Prelude.{◌≡◌, ℕ, true, false, List, [], ◌∷◌, ◌++◌, length, Ok, Err, Result}
use Rattle.std.specs.BTreeMap.{BTreeMap}
use Rattle.faults.specs.declared.refusal.Refusal.TheVariants.{ListedTwice}
use Rattle.std.specs.List.{list_any}
use Rattle.tow_sheets.specs.declared.links.Link.{Link}
use Rattle.tow_sheets.specs.Links.{same_pair}
use Rattle.tow_rule.specs.declared.unmade.Unmade.{Unmade}
use Rattle.tow_rule.specs.declared.unmade.Unmade.TheVariants.{Refused, NoMemory}
use Rattle.tow_rule.specs.Places.{InOrder, Places}
use Rattle.tow_rule.specs.Refusals.{listed_twice, whole_fault}

-- the index of a list
abbrev pub IndexOf : List Link → BTreeMap (ℕ × ℕ) ℕ → Type 0
IndexOf links index = InOrder index × Places index links

-- one more link entered into the index of the links before it, unless one of those is of the same pair
abbrev pub Entered : BTreeMap (ℕ × ℕ) ℕ → Link → ℕ → Result (Unit {0}) Unmade → BTreeMap (ℕ × ℕ) ℕ → Type 0
Entered old link place (Ok done) new = (ls : List Link) → length ls ≡ place → IndexOf ls old → (list_any (λ k. same_pair k link) ls ≡ false) × IndexOf (ls ++ link ∷ []) new
Entered old link place (Err (Refused f)) new = (f ≡ whole_fault ListedTwice) × ((ls : List Link) → IndexOf ls old → list_any (λ k. same_pair k link) ls ≡ true)
Entered old link place (Err NoMemory) new = Unit {0}

-- the index of a whole list, unless a pair is listed twice
abbrev pub Indexed : List Link → Result (BTreeMap (ℕ × ℕ) ℕ) Unmade → Type 0
Indexed links (Ok index) = (listed_twice links ≡ false) × IndexOf links index
Indexed links (Err (Refused f)) = (f ≡ whole_fault ListedTwice) × (listed_twice links ≡ true)
Indexed links (Err NoMemory) = Unit {0}
