-- That the tow rule keeps the law of rules and the bounds of cents. Assumes nothing.
use Rattle.std.specs.Prelude.{◌≡◌, ℕ, zero, suc, ◌<◌, ◌≤◌, Bool, true, false, cond, List, [], ◌∷◌, length, Some, None, Option, nat_le, slice_index_or, refl}
use Rattle.std.proofs.Common.{sym, ap, subst, ◌∙◌, arith}
use Rattle.std.proofs.lemmas.Bool.{and_parts, or_parts, not-false, leb-true}
use Rattle.std.proofs.lemmas.Option.{cond_some, none-some, same_Some}
use Rattle.std.specs.List.{list_any}
use Rattle.trips.specs.declared.trip.Trip.{Trip}
use Rattle.trips.specs.Gaps.{gap_lies_within, within_forward}
use Rattle.rules.specs.declared.rule.YardCents.{YardCents}
use Rattle.tow_sheets.specs.declared.links.Link.{Link}
use Rattle.tow_rule.specs.declared.rule.TowRule.{TowRule}
use Rattle.tow_rule.specs.Listed.{is_of_pair, listed, cost_within, listed_link}
use Rattle.tow_sheets.specs.Links.{link_in_range}
use Rattle.tow_rule.specs.Refusals.{outside}

-- a cost stands only where a link does and the gap fits
pub record Fits (a b : Trip) (o : Option Link) (n : ℕ) : Type 0 where
  pub link : Link
  pub is : o ≡ Some link
  pub fits : gap_lies_within link.lower link.upper a b ≡ true
  pub cost_is : link.cost ≡ n

pub fitting : (a b : Trip) (o : Option Link) (n : ℕ) → cost_within a b o ≡ Some n → Fits a b o n
fitting a b None n e = absurd (none-some n e)
fitting a b (Some l) n e = let c = cond_some (gap_lies_within l.lower l.upper a b) l.cost n e in record { link = l; is = refl; fits = c.0; cost_is = c.1 }

-- the listed link of a pair stands in the list, and is of that pair
pub record Stands (links : List Link) (tail head : ℕ) (l : Link) : Type 0 where
  pub place : ℕ
  pub within : place < length links
  pub is : (d : Link) → slice_index_or links place d ≡ l
  pub of_pair : is_of_pair tail head l ≡ true

first : (x : Link) (links : List Link) (tail head : ℕ) (l : Link) → is_of_pair tail head x ≡ true → x ≡ l → Stands (x ∷ links) tail head l
first x links tail head l t e = record { place = 0; within = omega arith; is = λ d. e; of_pair = ap (is_of_pair tail head) (sym e) ∙ t }

later : (x : Link) (links : List Link) (tail head : ℕ) (l : Link) → Stands links tail head l → Stands (x ∷ links) tail head l
later x links tail head l s = record { place = suc s.place; within = omega (arith, s.within); is = s.is; of_pair = s.of_pair }

pub standing : (links : List Link) (tail head : ℕ) (l : Link) → listed links tail head ≡ Some l → Stands links tail head l
standing [] tail head l e = absurd (none-some l e)
standing (x ∷ links) tail head l e = by_pair (is_of_pair tail head x) refl e (standing links tail head l)
  where
    by_pair : (t : Bool) → is_of_pair tail head x ≡ t → cond t (Some x) (listed links tail head) ≡ Some l → (listed links tail head ≡ Some l → Stands links tail head l) → Stands (x ∷ links) tail head l
    by_pair true t e rest = first x links tail head l t (cc)
    by_pair false t e rest = later x links tail head l (rest e)

-- what no element of a list passes, none of its places does
pub not_there : {X : Type 0} (p : X → Bool) (xs : List X) (k : ℕ) (x : X) → list_any p xs ≡ false → k < length xs → ((d : X) → slice_index_or xs k d ≡ x) → p x ≡ false
not_there p [] k x none within is = absurd (omega arith)
not_there p (y ∷ xs) zero x none within is = ap p (sym (is y)) ∙ (or_parts (p y) (list_any p xs) none).0
not_there p (y ∷ xs) (suc k) x none within is = not_there p xs k x (or_parts (p y) (list_any p xs) none).1 (omega arith) is

-- a link within its ranges costs at most 1,000,000,000 cents
cost_bound : (l : Link) → outside l ≡ false → l.cost ≤ 1000000000
cost_bound l e =
    let number = and_parts (nat_le l.number 65535) _ (not-false (link_in_range l) e) in
    let tail_one = and_parts (nat_le 1 l.tail) _ number.1 in
    let tail_most = and_parts (nat_le l.tail 65535) _ tail_one.1 in
    let head_one = and_parts (nat_le 1 l.head) _ tail_most.1 in
    let head_most = and_parts (nat_le l.head 65535) _ head_one.1 in
    let order = and_parts (nat_le l.lower l.upper) _ head_most.1 in
    let upper = and_parts (nat_le l.upper 20160) (nat_le l.cost 1000000000) order.1 in
    leb-true l.cost 1000000000 upper.1

module _ (s : TowRule) (a b : Trip) (n : ℕ) (e : listed_link s.listed.links.now a b ≡ Some n) where
  pub tow_forward : a.arrival ≤ b.departure
  tow_forward = let f = fitting a b (listed s.listed.links.now a.number b.number) n e in within_forward f.link.lower f.link.upper a b f.fits

  pub tow_link_bound : n ≤ 1000000000
  tow_link_bound =
      let links = s.listed.links.now in
      let f = fitting a b (listed links a.number b.number) n e in
      let k = standing links a.number b.number f.link f.is in
      let most = cost_bound f.link (not_there outside links k.place f.link s.listed.ranged k.within k.is) in
      omega (arith, most, f.cost_is)

pub tow_yard_bound : (s : TowRule) (y : YardCents) → Some s.yard ≡ Some y → (y.out ≤ 1000000000) × (y.home ≤ 1000000000)
tow_yard_bound s y e = subst (λ (c : YardCents). (c.out ≤ 1000000000) × (c.home ≤ 1000000000)) (same_Some s.yard y e) (s.out_bound, s.home_bound)
