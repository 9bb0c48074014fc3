-- A dead end of the search has the fewest duties: counting duties instead of money, 1 is the price of coming to a reached head, and -1 that of leaving a reached tail.
use Rattle.std.proofs.Common.{◌≡◌, ℕ, ◌<◌, ◌≤◌, Bool, true, false, cond, eqb, List, length, ℤ, pos, negsuc, ◌-ℤ◌, ◌*ℤ◌, ◌≤ℤ◌, is_some, Some, None, Option, sym, refl, ap, ◌∙◌, inl, inr, ⊎_elim, arith}
use borrow.Author.Differences.{ints}
use Rattle.std.proofs.lemmas.Bool.{cases_eq, eq-eqb, ne_eqb, false≢true}
use Rattle.std.specs.Option.{option_map}
use Rattle.rows.specs.Places.{weight}
use Rattle.duties.specs.Duties.{Net, wholes, Cover, sum_over, cost, below as upto}
use Rattle.duties.specs.Tables.{Table, duties_of}
use Rattle.duties.specs.Traces.{Tight}
use Rattle.duties.specs.Theorems.{price, Counters}
use Rattle.duties.specs.Plans.{TooFew}
use Rattle.duties.proofs.InOrder.{duties_traced}
use Rattle.duties.proofs.Tightness.{tight_cost}
use Rattle.duties.proofs.Shapes.{counted, some_mapped, to_counted, from_counted, cover_of}
use Rattle.duties.proofs.Corollaries.{fewest, zero_mapped, cost_counted}
use Rattle.matchings.specs.Tables.{at, free, Reached}
use Rattle.matchings.specs.Rowed.{weighed, Bounded}
use Rattle.matchings.specs.Sound.{Matching, Closed}
use Rattle.matchings.specs.Growths.{Stands}
use Rattle.matchings.proofs.RaiseKeeps.{reached?}
use Rattle.matchings.proofs.Ranges.{weighed_forward, unweighed}
use Rattle.outcomes.proofs.Successors.{number_is, as_table, as_tight}

module _ (prior reached : List ℕ) where
  -- 1 for a reached head
  abbrev head : ℕ → ℤ
  head j = cond (eqb (at prior j) 65535) (pos 1) (cond (eqb (at reached (at prior j)) 65535) (pos 0) (pos 1))

  -- -1 for a reached tail
  abbrev tail : ℕ → ℤ
  tail i = cond (eqb (at reached i) 65535) (pos 0) (negsuc 0)

  head_in : (j : ℕ) → Reached prior reached j → head j ≡ pos 1
  head_in j (inl e) = ap (λ t. cond t (pos 1) (cond (eqb (at reached (at prior j)) 65535) (pos 0) (pos 1))) (eq-eqb (at prior j) 65535 e)
  head_in j (inr f) = ap (λ t. cond (eqb (at prior j) 65535) (pos 1) (cond t (pos 0) (pos 1))) (ne_eqb (at reached (at prior j)) 65535 f) ∙ both (eqb (at prior j) 65535)
    where
      both : (t : Bool) → cond t (pos 1) (pos 1) ≡ pos 1
      both true = refl
      both false = refl

  head_out : (j : ℕ) → (Reached prior reached j → ⊥) → head j ≡ pos 0
  head_out j f =
      ap (λ t. cond t (pos 1) (cond (eqb (at reached (at prior j)) 65535) (pos 0) (pos 1))) (ne_eqb (at prior j) 65535 (λ e. f (inl e)))
      ∙ elim (cases_eq (at reached (at prior j)) 65535) [
        | inl e ↦ ap (λ t. cond t (pos 0) (pos 1)) (eq-eqb (at reached (at prior j)) 65535 e)
        | inr g ↦ absurd (f (inr g))
      ]

  tail_in : (i : ℕ) → (at reached i ≡ 65535 → ⊥) → tail i ≡ negsuc 0
  tail_in i f = ap (λ t. cond t (pos 0) (negsuc 0)) (ne_eqb (at reached i) 65535 f)

  tail_out : (i : ℕ) → at reached i ≡ 65535 → tail i ≡ pos 0
  tail_out i e = ap (λ t. cond t (pos 0) (negsuc 0)) (eq-eqb (at reached i) 65535 e)

some_of : (o : Option (List ℤ)) → is_some (option_map (λ _. pos 0) o) ≡ true → (r : List ℤ) × (o ≡ Some r)
some_of None h = absurd (false≢true h)
some_of (Some r) h = (r, refl)

total_is : (l c : ℕ) (x s : ℤ) → l ≡ c → x ≡ s -ℤ pos l *ℤ pos 0 → x ≡ pos l → pos c ≤ℤ s
total_is l c x s e f g = let z : pos l *ℤ pos 0 ≡ pos 0 = omega (arith, ints) in omega (arith, ints)

module _ {V : Type 0} (row : V → List ℤ) (count : ℕ) (net : Net (List ℤ)) (bd : Bounded count net) (few : net.trips ≤ 200) (next prior reached : List ℕ) (a b : List V) (h : V)
    (st : Stands row net net.trips next prior a b h) (closed : Closed (weighed net) net.trips next prior reached) where
  m : Matching net.trips next prior
  m = st.sound.matching

  small : net.trips < 65535
  small = omega arith

  hull_table : Table (counted net) next
  hull_table = as_table net.trips small next prior m (counted net) refl (λ i l f.
      let e = st.sound.tight.pair i l f in
      let u = unweighed (net.link i (at next i)) _ e in
      (weighed_forward count net bd i (at next i) _ e, some_mapped (λ _. pos 0) (net.link i (at next i)) ∙ ap is_some u.1))

  hull_tight : Tight (counted net) next (head prior reached) (tail prior reached) (pos 0)
  hull_tight =
      as_tight net.trips small next prior m (counted net) refl (head prior reached) (tail prior reached) (pos 0)
      (λ j l z. head_in prior reached j (inl z))
      (λ i l z. elim (cases_eq (at reached i) 65535) [ inl o ↦ tail_out prior reached i o | inr o ↦ absurd (closed.taken.matched i l o z) ])
      (λ i l f.
      let o = m.out i l f in
      let lf = zero_mapped (net.link i (at next i)) in
      elim (cases_eq (at reached i) 65535) [
        | inl e ↦
            let x = tail_out prior reached i e in
            let y = head_out prior reached (at next i) (⊎_elim (λ z. omega arith) (λ g. g (ap (at reached) o.1 ∙ e))) in
            omega (arith, ints)
        | inr e ↦
            let x = tail_in prior reached i e in
            let y = head_in prior reached (at next i) (inr (λ z. e (sym (ap (at reached) o.1) ∙ z))) in
            omega (arith, ints)
      ])

  counters : Counters (counted net) (head prior reached) (tail prior reached)
  counters =
      record {
        open_ok = λ j l. elim (reached? prior reached j) [ inl r ↦ let e = head_in prior reached j r in omega (arith, ints) | inr r ↦ let e = head_out prior reached j r in omega (arith, ints) ];
        home_ok = λ i l. elim (cases_eq (at reached i) 65535) [ inl o ↦ let e = tail_out prior reached i o in omega (arith, ints) | inr o ↦ let e = tail_in prior reached i o in omega (arith, ints) ];
        link_ok = λ i j li lj k.
            elim (cases_eq (at reached i) 65535) [
              | inl o ↦
                  let x = tail_out prior reached i o in
                  elim (reached? prior reached j) [
                    | inl r ↦ let s = some_of (net.link i j) k in absurd (closed.none i j (weight s.0) li lj o r (ap (option_map weight) s.1))
                    | inr r ↦ let y = head_out prior reached j r in omega (arith, ints)
                  ]
              | inr o ↦
                  let x = tail_in prior reached i o in
                  elim (reached? prior reached j) [ inl r ↦ let y = head_in prior reached j r in omega (arith, ints) | inr r ↦ let y = head_out prior reached j r in omega (arith, ints) ]
            ];
      }

  pub too_few : (limit c : ℕ) → free prior ≡ c → limit < c → TooFew net limit c
  too_few limit c fr over =
      let ds = duties_of next in
      let tr = duties_traced (counted net) next hull_table in
      let num : length ds ≡ c = tr.number ∙ number_is net.trips small next prior m ∙ fr in
      let tc = tight_cost (counted net) next (head prior reached) (tail prior reached) (pos 0) hull_table hull_tight ds tr in
      let cov : Cover net ds = cover_of (counted net) net refl (from_counted net) ds tr.cover in
      let co = cost_counted net ds cov.selection.duties in
      let enough : pos c ≤ℤ sum_over wholes (price (head prior reached) (tail prior reached)) (upto net.trips) = total_is (length ds) c (cost wholes (counted net) ds) (sum_over wholes (price (head prior reached) (tail prior reached)) (upto net.trips)) num tc co in
      record {
        duties = ds;
        cover = cov;
        number_is = num;
        over = over;
        least = λ es k. fewest (counted net) (head prior reached) (tail prior reached) counters c enough es (cover_of net (counted net) refl (to_counted net) es k);
      }
