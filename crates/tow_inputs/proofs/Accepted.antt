-- That what the tow office's sheets say is never refused when a rule is made from it. Assumes nothing.
use Rattle.std.proofs.Common.{◌≡◌, ℕ, ◌≤◌, Bool, true, false, cond, ◌&&◌, eqb, leb, List, [], ◌∷◌, ◌++◌, length, get_or, Some, None, Ok, Option, sym, refl, ap, ◌∙◌}
use Rattle.std.proofs.lemmas.Bool.{and_parts, and_from, or_from, not_from_true, cond-false, leb-true, le-leb}
use Rattle.faults.specs.declared.fault.Fault.{Fault}
use Rattle.std.specs.List.{list_all, list_any}
use Rattle.std.proofs.lemmas.Option.{cond_some, none-some}
use Rattle.sheet.specs.Says.{Admits, Reads}
use Rattle.sheet.proofs.Every.{says_all}
use Rattle.tow_sheets.specs.declared.links.Link.{Link}
use Rattle.tow_sheets.specs.declared.charges.Charges.{Charges}
use Rattle.tow_sheets.specs.Links.{in_range, link_in_range, link_of, same_pair, link_rules}
use Rattle.tow_sheets.specs.Charges.{in_range as sums_in_range, charges_of, charges_rules, Charged}
use Rattle.tow_rule.specs.Refusals.{outside, listed_twice, links_refusal, sums_outside, tow_refusal}
use Rattle.tow_rule.proofs.Twice.{once_more}
use Rattle.tow_inputs.proofs.Keeping.{says_keeps}

-- where each link is in range, none is outside
none_outside : (rs : List Link) → list_all link_in_range rs ≡ true → list_any outside rs ≡ false
none_outside [] h = refl
none_outside (r ∷ rs) h =
    let both = and_parts (link_in_range r) (list_all link_in_range rs) h in
    or_from (outside r) (list_any outside rs) (not_from_true (link_in_range r) both.0) (none_outside rs both.1)

-- where a test forbids nothing, it failed
not_forbidden : {X : Type 0} (t : Bool) (x : X) → cond t (Some x) None ≡ None → t ≡ false
not_forbidden true x e = absurd (none-some x (sym e))
not_forbidden false x e = refl

module _ (room : ℕ) where
  admitted_range : (line : ℕ) (rs : List Link) (ns : List ℕ) (r : Link) → Admits link_rules room line rs ns r → link_in_range r ≡ true
  admitted_range line rs ns r a =
      let so = cond_some (eqb (length ns) 6 && in_range (get_or ns 0 0) (get_or ns 1 0) (get_or ns 2 0) (get_or ns 3 0) (get_or ns 4 0) (get_or ns 5 0)) (link_of ns) r a.is in
      ap link_in_range (sym so.1) ∙ (and_parts (eqb (length ns) 6) _ so.0).1

  admitted_once : (line : ℕ) (rs : List Link) (ns : List ℕ) (r : Link) → Admits link_rules room line rs ns r → listed_twice rs ≡ false → listed_twice (rs ++ r ∷ []) ≡ false
  admitted_once line rs ns r a once = once_more rs r once (not_forbidden (list_any (λ k. same_pair k r) rs) _ a.free)

  -- the links that a links sheet says are in range, and no pair is among them twice
  pub links_accepted : (sheet : List ℕ) (rs : List Link) (fault : Option Fault) → Reads link_rules room sheet rs fault → links_refusal rs ≡ None
  links_accepted sheet rs fault h =
      cond-false (list_any outside rs) _ _ (none_outside rs (says_all link_rules room link_in_range admitted_range sheet rs fault h.says))
      ∙ cond-false (listed_twice rs) _ _ (says_keeps link_rules room (λ qs. listed_twice qs ≡ false) refl admitted_once sheet rs fault h.says)

-- the three sums of a charges sheet are at most 1,000,000,000 cents each
pub record SumsInRange (c : Charges) : Type 0 where
  pub out_most : c.out ≤ 1000000000
  pub home_most : c.home ≤ 1000000000
  pub fee_most : c.fee ≤ 1000000000

abbrev charges_in_range : Charges → Bool
charges_in_range c = sums_in_range c.out c.home c.fee

admitted_sums : (line : ℕ) (rs : List Charges) (ns : List ℕ) (r : Charges) → Admits charges_rules 1 line rs ns r → charges_in_range r ≡ true
admitted_sums line rs ns r a =
    let so = cond_some (eqb (length ns) 3 && sums_in_range (get_or ns 0 0) (get_or ns 1 0) (get_or ns 2 0)) (charges_of ns) r a.is in
    ap charges_in_range (sym so.1) ∙ (and_parts (eqb (length ns) 3) _ so.0).1

pub charges_in_range_lem : (sheet : List ℕ) (c : Charges) → Charged sheet (Ok c) → SumsInRange c
charges_in_range_lem sheet c h =
    let all = and_parts (charges_in_range c) true (says_all charges_rules 1 charges_in_range admitted_sums sheet (c ∷ []) None h.says) in
    let out = and_parts (leb c.out 1000000000) _ all.0 in
    let home = and_parts (leb c.home 1000000000) (leb c.fee 1000000000) out.1 in
    record { out_most = leb-true _ _ out.0; home_most = leb-true _ _ home.0; fee_most = leb-true _ _ home.1 }

-- a tow rule is never refused where it is made from what the two sheets say
pub sheets_accepted : (charges links : List ℕ) (c : Charges) (room : ℕ) (rs : List Link) (fault : Option Fault) → Charged charges (Ok c) → Reads link_rules room links rs fault → tow_refusal rs c.out c.home ≡ None
sheets_accepted charges links c room rs fault charged reads =
    let most = charges_in_range_lem charges c charged in
    let both = and_from (leb c.out 1000000000) (leb c.home 1000000000) (le-leb _ _ most.out_most) (le-leb _ _ most.home_most) in
    cond-false (sums_outside c.out c.home) _ _ (not_from_true _ both) ∙ links_accepted room links rs fault reads
