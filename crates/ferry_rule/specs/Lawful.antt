-- That the ferry rule keeps the law of rules and the bounds of cents. Assumes nothing.
use Rattle.std.specs.Prelude.{◌≡◌, ℕ, ◌+◌, ◌*◌, ◌≤◌, true, IfSome, Some, None, vec_items, Option, refl}
use Rattle.std.proofs.Common.{sym, ap, mul-le-mul, arith}
use Rattle.std.proofs.lemmas.Option.{cond_some, none-some}
use Rattle.chart.proofs.Distances.{answer_short}
use Rattle.trips.specs.declared.trip.Trip.{Trip}
use Rattle.trips.specs.Gaps.{gap_lies_within, within_forward}
use Rattle.rules.specs.declared.rule.YardCents.{YardCents}
use Rattle.ferry_rule.specs.declared.terms.Terms.{Terms}
use Rattle.ferry_rule.specs.declared.rule.FerryRule.{FerryRule}
use Rattle.ferry_rule.specs.Facts.{way, link_by, yard_by, ferry_link, ferry_yard}

-- a link exists only where the way does and the gap fits
record Linked (terms : Terms) (a b : Trip) (o : Option ℕ) (n : ℕ) : Type 0 where
  minutes : ℕ
  way : o ≡ Some minutes
  fits : gap_lies_within (terms.least + minutes) (terms.most + minutes) a b ≡ true
  cents : n ≡ minutes * terms.factor

linked : (terms : Terms) (a b : Trip) (o : Option ℕ) (n : ℕ) → link_by terms a b o ≡ Some n → Linked terms a b o n
linked terms a b None n e = absurd (none-some n e)
linked terms a b (Some d) n e =
    let c = cond_some (gap_lies_within (terms.least + d) (terms.most + d) a b) (d * terms.factor) n e in
    record { minutes = d; way = refl; fits = c.0; cents = sym c.1 }

-- the yard's ways exist where the trip is served
record Served (terms : Terms) (o p : Option ℕ) (y : YardCents) : Type 0 where
  out : ℕ
  home : ℕ
  way_out : o ≡ Some out
  way_home : p ≡ Some home
  is : y ≡ record { out = out * terms.factor; home = home * terms.factor }

served : (terms : Terms) (o p : Option ℕ) (y : YardCents) → yard_by terms o p ≡ Some y → Served terms o p y
served terms None p y e = absurd (none-some y e)
served terms (Some out) None y e = absurd (none-some y e)
served terms (Some out) (Some home) y e = record { out = out; home = home; way_out = refl; way_home = refl; is = cc }

-- no way takes longer than 18,600 minutes
pub short_way : (s : FerryRule) (x y : ℕ) (o : Option ℕ) → o ≡ way s x y → IfSome o (λ m. m ≤ 18600)
short_way s x y None e = tt
short_way s x y (Some m) e = answer_short (vec_items s.chart.edges.list) s.chart.lengths.lengths x y m s.chart.edges.lawful s.chart.closed e

-- a distance times a factor is at most 1,000,000,000 cents
cents_bound : (s : FerryRule) (x y m : ℕ) → way s x y ≡ Some m → m * s.terms.factor ≤ 1000000000
cents_bound s x y m e =
    let most : m * s.terms.factor ≤ 18600 * 10000 = mul-le-mul (short_way s x y (Some m) (sym e)) s.terms.factor_bound in
    omega arith

pub ferry_forward : (s : FerryRule) (a b : Trip) (n : ℕ) → ferry_link s a b ≡ Some n → a.arrival ≤ b.departure
ferry_forward s a b n e = let l = linked s.terms a b (way s a.end b.start) n e in within_forward (s.terms.least + l.minutes) (s.terms.most + l.minutes) a b l.fits

pub ferry_link_bound : (s : FerryRule) (a b : Trip) (n : ℕ) → ferry_link s a b ≡ Some n → n ≤ 1000000000
ferry_link_bound s a b n e =
    let l = linked s.terms a b (way s a.end b.start) n e in
    let c = cents_bound s a.end b.start l.minutes l.way in
    omega (arith, l.cents)

pub ferry_yard_bound : (s : FerryRule) (t : Trip) (y : YardCents) → ferry_yard s t ≡ Some y → (y.out ≤ 1000000000) × (y.home ≤ 1000000000)
ferry_yard_bound s t y e =
    let v = served s.terms (way s 0 t.start) (way s t.end 0) y e in
    let o = cents_bound s 0 t.start v.out v.way_out in
    let h = cents_bound s t.end 0 v.home v.way_home in
    let p = ap (λ (c : YardCents). c.out) v.is in
    let q = ap (λ (c : YardCents). c.home) v.is in
    (omega arith, omega arith)
