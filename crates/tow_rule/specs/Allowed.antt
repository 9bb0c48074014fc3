-- Which links a list of links allows, link by link. Assumes nothing.
use Rattle.std.specs.Prelude.{◌≡◌, ℕ, List, pos, ◌≤ℤ◌, Some}
use Rattle.std.specs.List.{ContainsAt as Has}
use Rattle.trips.specs.declared.trip.Trip.{Trip}
use Rattle.trips.specs.Gaps.{gap_of}
use Rattle.tow_sheets.specs.declared.links.Link.{Link}
use Rattle.tow_rule.specs.Listed.{listed_link}

-- some listed link has the first trip's number as its tail and the second's as its head, its window from lower to upper holds the gap between them, and it costs so many cents
pub record Allows (links : List Link) (a b : Trip) (cents : ℕ) : Type 0 where
  pub link : Link
  pub stands : Has links link
  pub tail_is : link.tail ≡ a.number
  pub head_is : link.head ≡ b.number
  pub lower_bound : pos link.lower ≤ℤ gap_of a b
  pub upper_bound : gap_of a b ≤ℤ pos link.upper
  pub cost_is : link.cost ≡ cents

-- a list links one trip to another at so many cents exactly where it allows that
pub record LinksAsAllowed (links : List Link) : Type 0 where
  pub only : (a b : Trip) (cents : ℕ) → listed_link links a b ≡ Some cents → Allows links a b cents
  pub every : (a b : Trip) (cents : ℕ) → Allows links a b cents → listed_link links a b ≡ Some cents
