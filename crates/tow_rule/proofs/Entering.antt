-- A list of links entered into an index one by one. Assumes nothing.
use Rattle.std.proofs.Common.{◌≡◌, ℕ, ◌+◌, ◌<◌, ◌≤◌, false, List, ◌++◌, length, get_or, take, drop, Ok, Err, sym, ap, ◌∙◌, subst, arith}
use Rattle.std.proofs.lemmas.List.{take-append-drop, drop_more, take_more, take_all, length-take-le}
use Rattle.std.specs.BTreeMap.{BTreeMap}
use Rattle.tow_sheets.specs.declared.links.Link.{Link}
use Rattle.tow_sheets.specs.Links.{no_link}
use Rattle.tow_rule.specs.declared.unmade.Unmade.{Unmade}
use Rattle.tow_rule.specs.declared.unmade.Unmade.TheVariants.{Refused, NoMemory}
use Rattle.tow_rule.specs.Indexing.{IndexOf, Entered, Indexed}
use Rattle.tow_rule.specs.Refusals.{listed_twice}
use Rattle.tow_rule.proofs.Twice.{twice_here, once_more}

module _ (links : List Link) where
  -- the first i links are in the index, and no pair stands twice among them
  abbrev pub Sofar : ℕ → BTreeMap (ℕ × ℕ) ℕ → Type 0
  Sofar i index = (listed_twice (take i links) ≡ false) × IndexOf (take i links) index

  pub all_entered : (i : ℕ) (m : BTreeMap (ℕ × ℕ) ℕ) → length links ≤ i → Sofar i m → (listed_twice links ≡ false) × IndexOf links m
  all_entered i m over sofar = subst (λ ls. (listed_twice ls ≡ false) × IndexOf ls m) (take_all i links over) sofar

  module _ (i : ℕ) (here : i < length links) (m n : BTreeMap (ℕ × ℕ) ℕ) (sofar : Sofar i m) where
    pub one_entered : Entered m (get_or links i no_link) i (Ok tt) n → Sofar (i + 1) n
    one_entered entered =
        let more = entered (take i links) (length-take-le i links (omega arith)) sofar.1 in
        subst (λ ls. (listed_twice ls ≡ false) × IndexOf ls n) (sym (take_more links i no_link here)) (once_more (take i links) (get_or links i no_link) sofar.0 more.0, more.1)

    pub not_entered : (e : Unmade) → Entered m (get_or links i no_link) i (Err e) n → Indexed links (Err e)
    not_entered (Refused f) entered =
        let around = ap (λ rest. take i links ++ rest) (sym (drop_more links i no_link here)) ∙ take-append-drop i links in
        (entered.0, ap listed_twice (sym around) ∙ twice_here (take i links) (get_or links i no_link) (drop (i + 1) links) (entered.1 (take i links) sofar.1))
    not_entered NoMemory entered = tt
