-- Where the link of a pair of trips stands in a list, and the index that has these places. Assumes nothing.
use Rattle.std.specs.Prelude.{◌≡◌, ℕ, suc, ◌<◌, cond, List, [], ◌∷◌, length, Some, None, Option, slice_index_or}
use Rattle.std.specs.Option.{option_map, option_to_list}
use Rattle.std.specs.BTreeMap.{BTreeMap, IsOrdered, get}
use Rattle.tow_sheets.specs.declared.links.Link.{Link}
use Rattle.tow_sheets.specs.Links.{no_link}
use Rattle.tow_rule.specs.Listed.{is_of_pair, listed}
use Rattle.std.specs.Ordering.{nat_cmp, ordering_then}

-- the place of the listed link of a pair of trips
abbrev pub place_of : List Link → ℕ → ℕ → Option ℕ
place_of [] tail head = None
place_of (l ∷ ls) tail head = cond (is_of_pair tail head l) (Some 0) (option_map suc (place_of ls tail head))

-- a place, or none, that the listed link of a pair of trips has
abbrev pub StandsAt : List Link → ℕ → ℕ → Option ℕ → Type 0
StandsAt links tail head None = listed links tail head ≡ None
StandsAt links tail head (Some i) = (i < length links) × (listed links tail head ≡ Some (slice_index_or links i no_link))

-- the keys of an index are in order, by tail and then by head
abbrev pub InOrder : BTreeMap (ℕ × ℕ) ℕ → Type 0
InOrder index = IsOrdered (λ x y. ordering_then (nat_cmp x.0 y.0) (nat_cmp x.1 y.1)) index

-- an index has at each pair of numbers the place of the listed link of that pair, and nothing where there is none
abbrev pub Places : BTreeMap (ℕ × ℕ) ℕ → List Link → Type 0
Places index links = (tail head : ℕ) → option_to_list (get (λ x y. ordering_then (nat_cmp x.0 y.0) (nat_cmp x.1 y.1)) index (tail, head)) ≡ option_to_list (place_of links tail head)
