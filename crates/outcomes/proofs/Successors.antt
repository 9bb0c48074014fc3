-- The links of the search as a successor table.
use Rattle.std.proofs.Common.{◌≡◌, ℕ, zero, suc, ◌+◌, ◌<◌, ◌≤◌, List, [], ◌∷◌, length, take, ℤ, ◌+ℤ◌, sum_by, sym, refl, ap, ◌∙◌, subst, inl, inr, arith}
use Rattle.std.proofs.lemmas.List.{take_all}
use Rattle.std.proofs.lemmas.List.Sums.{sum_by_more}
use Rattle.std.proofs.lemmas.Bool.{cases_eq}
use Rattle.std.proofs.lemmas.Bool.Decides.{nat_tests}
use Rattle.duties.specs.Duties.{Net, wholes, Links, missing, times, link_cost}
use Rattle.duties.specs.Tables.{Table, after}
use Rattle.duties.specs.Traces.{Tight}
use Rattle.duties.proofs.Places.{times_at, place_of, missing_more_yes, missing_more_no}
use Rattle.matchings.specs.Tables.{at, free, lone}
use Rattle.matchings.specs.Sound.{Matching}

at_after : (t : List ℕ) (i : ℕ) → i < length t → after t i ≡ at t i
at_after [] i l = absurd (omega arith)
at_after (x ∷ t) zero l = refl
at_after (x ∷ t) (suc i) l = at_after t i (omega arith)

module _ (n : ℕ) (small : n < 65535) (next prior : List ℕ) (m : Matching n next prior) where
  -- who stands in the table has a tail
  in_table : (j : ℕ) → j < n → 0 < times j next → at prior j ≡ 65535 → ⊥
  in_table j lj some none =
      let h = place_of next j some in
      let i = h.0 in
      let li : i < n = let e = m.next_long in omega (arith, h.1) in
      let is : at next i ≡ j = h.2 0 in
      let o = m.out i li (λ z. omega arith) in
      let back : at prior j ≡ i = sym (ap (at prior) is) ∙ o.1 in
      omega arith

  not_in_table : (j : ℕ) → j < n → times j next ≡ 0 → at prior j ≡ 65535
  not_in_table j lj none =
      elim (cases_eq (at prior j) 65535) [
        | inl e ↦ e
        | inr f ↦
            let b = m.back j lj f in
            let l : at prior j < length next = let e = m.next_long in let z = b.0 in omega arith in
            let t = times_at next (at prior j) 0 j l b.1 in
            absurd (omega arith)
      ]

  number_to : (k : ℕ) → k ≤ n → length (missing k next) ≡ sum_by lone (take k prior)
  number_to zero l = refl
  number_to (suc k) l =
      let ih = number_to k (omega arith) in
      let lp : k < length prior = let e = m.prior_long in omega arith in
      let s = sum_by_more lone prior k 0 lp in
      let a1 : suc k ≡ k + 1 = omega arith in
      subst (λ z. length (missing z next) ≡ sum_by lone (take z prior)) (sym a1) (elim (cases_eq (times k next) 0) [
        | inl z ↦
            let e = missing_more_yes next k z in
            let none : at prior k ≡ 65535 = not_in_table k (omega arith) z in
            let one : lone (at prior k) ≡ 1 = grind (arith, nat_tests) in
            ap length e ∙ (let g : suc (length (missing k next)) ≡ sum_by lone (take (k + 1) prior) = omega arith in g)
        | inr f ↦
            let e = missing_more_no next k (omega arith) in
            let some : at prior k ≡ 65535 → ⊥ = in_table k (omega arith) (omega arith) in
            let one : lone (at prior k) ≡ 0 = grind (arith, nat_tests) in
            ap length e ∙ (let g : length (missing k next) ≡ sum_by lone (take (k + 1) prior) = omega arith in g)
      ])

  -- as many trips stand nowhere in the table as have no tail
  pub number_is : length (missing n next) ≡ free prior
  unfolding free
  number_is = number_to n (omega arith) ∙ ap (sum_by lone) (take_all n prior (let e = m.prior_long in omega arith))

  -- the table of a net in which each pair is a forward link
  pub as_table : {V : Type 0} (N : Net V) → N.trips ≡ n → ((i : ℕ) → i < n → (at next i ≡ 65535 → ⊥) → (i < at next i) × Links N i (at next i)) → Table N next
  as_table N e link =
      let ls = m.next_long in
      record {
        small = omega arith;
        long = m.next_long ∙ sym e;
        later = λ i l f.
            let li : i < n = omega arith in
            let q = at_after next i (omega arith) in
            let o = m.out i li (λ z. f (q ∙ z)) in
            let k = link i li (λ z. f (q ∙ z)) in
            rw q (k.0, (let z = o.0 in omega arith), k.1);
        apart = λ i j l lj same.
            let qi = at_after next i (omega arith) in
            let qj = at_after next j (omega arith) in
            elim (cases_eq (after next i) 65535) [
              | inl z ↦ z
              | inr f ↦
                  let oi = m.out i (omega arith) (λ z. f (qi ∙ z)) in
                  let oj = m.out j (omega arith) (λ z. f (same ∙ qj ∙ z)) in
                  let s : at next i ≡ at next j = sym qi ∙ same ∙ qj in
                  let x : i ≡ j = sym oi.1 ∙ ap (at prior) s ∙ oj.1 in
                  absurd (omega arith)
            ];
      }

  -- prices that are tight on the links are tight on the table
  pub as_tight : (N : Net ℤ) → N.trips ≡ n → (a b : ℕ → ℤ) (h : ℤ)
      → ((j : ℕ) → j < n → at prior j ≡ 65535 → a j ≡ N.opens j +ℤ h) → ((i : ℕ) → i < n → at next i ≡ 65535 → b i ≡ N.homes i)
      → ((i : ℕ) → i < n → (at next i ≡ 65535 → ⊥) → b i +ℤ a (at next i) ≡ link_cost wholes N i (at next i)) → Tight N next a b h
  as_tight N e a b h op ho li =
      let ls = m.next_long in
      record {
        open_tight = λ j l z. op j (omega arith) (not_in_table j (omega arith) z);
        home_tight = λ i l z. ho i (omega arith) (sym (at_after next i (omega arith)) ∙ z);
        link_tight = λ i l f. let q = at_after next i (omega arith) in rw q (li i (omega arith) (λ z. f (q ∙ z)));
      }
