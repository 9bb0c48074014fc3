-- A raise by no more than the least slack keeps what holds of the prices, the slacks and the reached tails. Assumes nothing.
use Rattle.std.proofs.Common.{◌≡◌, ℕ, ◌<◌, ◌≤◌, ◌⊎◌, List, ℤ, pos, ◌+ℤ◌, ◌≤ℤ◌, Some, sym, ap, ◌∙◌, inl, inr, ⊎_elim, arith}
use borrow.Author.Differences.{ints}
use Rattle.std.proofs.lemmas.Bool.{cases_eq}
use Rattle.duties.specs.Duties.{Net}
use Rattle.matchings.specs.Tables.{at, at_z, Reached, RaiseHeads, RaiseTails}
use Rattle.matchings.specs.Sound.{Matching, Feasible, Tight, Slacks, Tree, Taken}

-- whether a head is reached
pub reached? : (prior reached : List ℕ) (j : ℕ) → Reached prior reached j ⊎ (Reached prior reached j → ⊥)
reached? prior reached j =
    elim (cases_eq (at prior j) 65535) [
      | inl e ↦ inl (inl e)
      | inr f ↦ elim (cases_eq (at reached (at prior j)) 65535) [ inl e ↦ inr (⊎_elim f (λ g. g e)) | inr g ↦ inl (inr g) ]
    ]

module _ (net : Net ℤ) (n : ℕ) (small : n < 65535) (next prior reached via : List ℕ) (a b slack : List ℤ) (h h₀ d : ℤ) (t : ℕ) (a' b' slack' : List ℤ)
    (m : Matching n next prior) (tree : Tree net n prior reached via a b t) (taken : Taken n next reached) (slacks : Slacks net n (Reached prior reached) reached via a b slack)
    (heads : RaiseHeads prior reached d n a a') (tails : RaiseTails reached via d n b b' slack slack')
    (up : pos 0 ≤ℤ d) (least : (i : ℕ) → i < n → at reached i ≡ 65535 → (at via i ≡ 65535 → ⊥) → d ≤ℤ at_z slack i) where
  pub raise_feasible : Feasible net n a b h → Feasible net n a' b' (h +ℤ d)
  raise_feasible f =
      record {
        pair = λ i j v li lj e.
            let old = f.pair i j v li lj e in
            elim (cases_eq (at reached i) 65535) [
              | inl o ↦
                  let eb = tails.others i li o in
                  elim (reached? prior reached j) [
                    | inl r ↦ let ea = heads.moved j lj r in let s = slacks.low i j v li lj o r e in let l = least i li o s.0 in omega (arith, ints)
                    | inr r ↦ let ea = heads.others j lj r in omega (arith, ints)
                  ]
              | inr o ↦
                  let eb = (tails.moved i li o).0 in
                  elim (reached? prior reached j) [
                    | inl r ↦ let ea = heads.moved j lj r in omega (arith, ints)
                    | inr r ↦ let ea = heads.others j lj r in omega (arith, ints)
                  ]
            ];
        tail = λ i li.
            let old = f.tail i li in
            elim (cases_eq (at reached i) 65535) [
              | inl o ↦ let eb = tails.others i li o in omega (arith, ints)
              | inr o ↦ let eb = (tails.moved i li o).0 in omega (arith, ints)
            ];
        head = λ j lj.
            let old = f.head j lj in
            elim (reached? prior reached j) [
              | inl r ↦ let ea = heads.moved j lj r in omega (arith, ints)
              | inr r ↦ let ea = heads.others j lj r in omega (arith, ints)
            ];
      }

  -- where tail and head are linked, both are reached, or neither is: together their prices stay the same
  together : (i j : ℕ) → i < n → j < n → at prior j ≡ i → (at_z b' i +ℤ at_z a' j) ≡ (at_z b i +ℤ at_z a j)
  together i j li lj e =
      elim (cases_eq (at reached i) 65535) [
        | inl o ↦
            let eb = tails.others i li o in
            let ea = heads.others j lj (⊎_elim (λ z. omega arith) (λ g. g (ap (at reached) e ∙ o))) in
            omega (arith, ints)
        | inr o ↦
            let eb = (tails.moved i li o).0 in
            let ea = heads.moved j lj (inr (λ z. o (sym (ap (at reached) e) ∙ z))) in
            omega (arith, ints)
      ]

  pub raise_tight : Tight net n next prior a b h → Tight net n next prior a' b' (h +ℤ d)
  raise_tight f =
      record {
        pair = λ i li s. let o = m.out i li s in f.pair i li s ∙ ap Some (sym (together i (at next i) li o.0 o.1));
        tail = λ i li s.
            elim (cases_eq (at reached i) 65535) [
              | inl o ↦ tails.others i li o ∙ f.tail i li s
              | inr o ↦ absurd (taken.matched i li o s)
            ];
        head = λ j lj s. let old = f.head j lj s in let ea = heads.moved j lj (inl s) in omega (arith, ints);
      }

  pub raise_slacks : Slacks net n (Reached prior reached) reached via a' b' slack'
  raise_slacks =
      record {
        low = λ i j v li lj o r e.
            let s = slacks.low i j v li lj o r e in
            let eb = tails.others i li o in
            let ea = heads.moved j lj r in
            let es = tails.slack i li o s.0 in
            (s.0, omega (arith, ints));
        hit = λ i li o f.
            let s = slacks.hit i li o f in
            let eb = tails.others i li o in
            let ea = heads.moved (at via i) s.0 s.1 in
            let es = tails.slack i li o f in
            (s.0, s.1, s.2 ∙ ap Some (omega (arith, ints)));
      }

  pub raise_tree : t ≤ 65535 → Tree net n prior reached via a' b' t
  raise_tree few =
      record {
        number = tree.number;
        source = λ i li o.
            let s = tree.source i li o in
            let k = tree.number i li o in
            let r : Reached prior reached (at via i) = elim (tree.before i li o) [ inl e ↦ inl e | inr l ↦ inr (λ z. omega arith) ] in
            let eb = (tails.moved i li o).0 in
            let ea = heads.moved (at via i) s.0 r in
            (s.0, s.1 ∙ ap Some (omega (arith, ints)));
        before = tree.before;
      }
