-- Which lists of links are refused, and why. Assumes nothing.
use Rattle.std.specs.Prelude.{◌≡◌, ℕ, Bool, false, cond, not, ◌&&◌, ◌||◌, List, [], ◌∷◌, Some, None, Option, nat_le}
use Rattle.std.specs.Option.{option_map}
use Rattle.faults.specs.declared.fault.Fault.{Fault}
use Rattle.faults.specs.declared.refusal.Refusal.{Refusal}
use Rattle.faults.specs.declared.refusal.Refusal.TheVariants.{OutOfRange, ListedTwice}
use Rattle.faults.specs.declared.layer.Layer.TheVariants.{Planner}
use Rattle.faults.specs.Shown.{fault_at}
use Rattle.std.specs.List.{list_any}
use Rattle.tow_sheets.specs.declared.links.Link.{Link}
use Rattle.tow_sheets.specs.Links.{link_in_range, same_pair}
use Rattle.tow_rule.specs.declared.unmade.Unmade.{Unmade}
use Rattle.tow_rule.specs.declared.unmade.Unmade.TheVariants.{Refused, NoMemory}

-- some number of a link is out of its range
abbrev pub outside : Link → Bool
outside l = not (link_in_range l)

-- some pair of trips is listed twice: a link has the same tail and head as one before it
abbrev pub listed_twice : List Link → Bool
listed_twice [] = false
listed_twice (l ∷ ls) = list_any (λ k. same_pair k l) ls || listed_twice ls

-- why a list of links is refused: a number out of its range anywhere, and only then a pair that is listed twice
abbrev pub links_refusal : List Link → Option Refusal
links_refusal links = cond (list_any outside links) (Some OutOfRange) (cond (listed_twice links) (Some ListedTwice) None)

-- the sum for the way out or for the way home is above 1,000,000,000 cents
abbrev pub sums_outside : ℕ → ℕ → Bool
sums_outside out home = not (nat_le out 1000000000 && nat_le home 1000000000)

-- why a tow rule is refused: a sum or a number of a link out of its range, and only then a pair that is listed twice
abbrev pub tow_refusal : List Link → ℕ → ℕ → Option Refusal
tow_refusal links out home = cond (sums_outside out home) (Some OutOfRange) (links_refusal links)

-- the planner's refusal of the whole
abbrev pub whole_fault : Refusal → Fault
whole_fault why = fault_at Planner why 0

-- why nothing was made, where there may be a reason to refuse: just that, or no memory, which is asked for only when every number is in its range
abbrev pub Unmakes : Option Refusal → Unmade → Type 0
Unmakes why (Refused f) = option_map whole_fault why ≡ Some f
Unmakes why NoMemory = why ≡ Some OutOfRange → ⊥
