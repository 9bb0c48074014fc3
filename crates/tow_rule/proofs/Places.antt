-- Where the listed link of a pair stands. Assumes nothing.
use Rattle.std.proofs.Common.{◌≡◌, ℕ, suc, Bool, true, false, cond, List, [], ◌∷◌, Some, None, Option, refl, arith}
use Rattle.std.specs.Option.{option_map, option_to_list}
use Rattle.tow_sheets.specs.declared.links.Link.{Link}
use Rattle.tow_rule.specs.Listed.{is_of_pair}
use Rattle.tow_rule.specs.Places.{place_of, StandsAt}

-- an `Option` is known by the list of what it holds
pub same_option : (o p : Option ℕ) → option_to_list o ≡ option_to_list p → o ≡ p
same_option None None e = refl
same_option None (Some x) e = let z : ◌≡◌ {A = ℕ} 0 1 = cc in absurd (omega arith)
same_option (Some x) None e = let z : ◌≡◌ {A = ℕ} 0 1 = cc in absurd (omega arith)
same_option (Some x) (Some y) e = cc

-- one link more in front
stands_on : (l : Link) (ls : List Link) (tail head : ℕ) (t : Bool) (o : Option ℕ) → is_of_pair tail head l ≡ t → StandsAt ls tail head o → StandsAt (l ∷ ls) tail head (cond t (Some 0) (option_map suc o))
stands_on l ls tail head true o e h = (omega arith, rw e)
stands_on l ls tail head false None e h = rw e h
stands_on l ls tail head false (Some i) e h = (omega (arith, h.0), rw e h.1)

pub stands : (ls : List Link) (tail head : ℕ) → StandsAt ls tail head (place_of ls tail head)
stands [] tail head = refl
stands (l ∷ ls) tail head = stands_on l ls tail head (is_of_pair tail head l) (place_of ls tail head) refl (stands ls tail head)
