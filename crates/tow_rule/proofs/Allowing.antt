-- The listed link of two trips is the one that the list allows. Assumes nothing.
use Rattle.std.proofs.Common.{◌≡◌, ℕ, zero, suc, ◌<◌, Bool, true, false, T, eqb, List, [], ◌∷◌, length, get_or, pos, Some, None, sym, refl, ap, ◌∙◌, subst, arith}
use lib.Signed.{le_z, le_z_yes}
use Rattle.std.proofs.lemmas.Bool.{eqb-true, eq-eqb, and_parts, and_from, or_parts, cond-true, cond-false}
use Rattle.std.specs.List.{list_any}
use Rattle.trips.specs.declared.trip.Trip.{Trip}
use Rattle.trips.specs.Gaps.{gap_of, gap_lies_within}
use Rattle.tow_sheets.specs.declared.links.Link.{Link}
use Rattle.tow_sheets.specs.Links.{same_pair}
use Rattle.tow_rule.specs.Allowed.{Allows, LinksAsAllowed}
use Rattle.tow_rule.specs.Lawful.{fitting, standing, not_there}
use Rattle.tow_rule.specs.Listed.{is_of_pair, listed, cost_within, listed_link}
use Rattle.tow_rule.specs.Refusals.{listed_twice}
use Rattle.tow_rule.proofs.Twice.{same_pair_flip}

is_true : (t : Bool) → T t → t ≡ true
is_true true h = refl
is_true false h = absurd h

only_allowed : (links : List Link) (a b : Trip) (n : ℕ) → listed_link links a b ≡ Some n → Allows links a b n
only_allowed links a b n e =
    let f = fitting a b (listed links a.number b.number) n e in
    let s = standing links a.number b.number f.link f.is in
    let l = f.link in
    let p = and_parts (eqb l.tail a.number) (eqb l.head b.number) s.of_pair in
    let w = and_parts (le_z (pos l.lower) (gap_of a b)) (le_z (gap_of a b) (pos l.upper)) f.fits in
    record {
      link = l;
      stands = (s.place, s.within, s.is);
      tail_is = eqb-true l.tail a.number p.0;
      head_is = eqb-true l.head b.number p.1;
      lower_bound = le_z_yes (subst T (sym w.0) tt);
      upper_bound = le_z_yes (subst T (sym w.1) tt);
      cost_is = f.cost_is;
    }

-- a link that stands in the list is the listed one of its pair, where no pair stands twice
listed_there : (links : List Link) (k : ℕ) (l : Link) → listed_twice links ≡ false → k < length links → ((d : Link) → get_or links k d ≡ l) → listed links l.tail l.head ≡ Some l
listed_there [] k l once within is = absurd (omega arith)
listed_there (x ∷ links) zero l once within is =
    let same : x ≡ l = is l in
    cond-true (is_of_pair l.tail l.head x) (Some x) (listed links l.tail l.head) (and_from _ _ (eq-eqb x.tail l.tail (ap (λ (y : Link). y.tail) same)) (eq-eqb x.head l.head (ap (λ (y : Link). y.head) same)))
    ∙ ap Some same
listed_there (x ∷ links) (suc k) l once within is =
    let parts = or_parts (list_any (λ y. same_pair y x) links) (listed_twice links) once in
    let within_rest : k < length links = omega arith in
    let apart = not_there (λ y. same_pair y x) links k l parts.0 within_rest is in
    cond-false (is_of_pair l.tail l.head x) (Some x) (listed links l.tail l.head) (same_pair_flip x l ∙ apart)
    ∙ listed_there links k l parts.1 within_rest is

all_allowed : (links : List Link) (a b : Trip) (n : ℕ) → listed_twice links ≡ false → Allows links a b n → listed_link links a b ≡ Some n
all_allowed links a b n once h =
    let l = h.link in
    let found = listed_there links h.stands.0 l once h.stands.1 h.stands.2 in
    let fits = and_from (le_z (pos l.lower) (gap_of a b)) (le_z (gap_of a b) (pos l.upper)) (is_true _ h.lower_bound.le) (is_true _ h.upper_bound.le) in
    ap (cost_within a b) ((λ i. listed links (sym h.tail_is i) (sym h.head_is i)) ∙ found)
    ∙ cond-true (gap_lies_within l.lower l.upper a b) (Some l.cost) None fits
    ∙ ap Some h.cost_is

pub as_allowed : (links : List Link) → listed_twice links ≡ false → LinksAsAllowed links
as_allowed links once = record { only = only_allowed links; every = λ a b n h. all_allowed links a b n once h }
