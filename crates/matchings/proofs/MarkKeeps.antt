-- A tail of slack zero that is marked as reached: what then holds of the reached tails and heads. Assumes nothing.
use Rattle.std.proofs.Common.{◌≡◌, ℕ, ◌+◌, ◌<◌, ◌≢◌, ◌⊎◌, List, length, set, ℤ, pos, Some, sym, ap, ◌∙◌, inl, inr, arith, get_or-set_other, get_or-set_same}
use borrow.Author.Differences.{ints}
use Rattle.std.proofs.lemmas.Bool.{cases_eq}
use Rattle.duties.specs.Duties.{Net}
use Rattle.matchings.specs.Tables.{at, at_z, Reached}
use Rattle.matchings.specs.Sound.{Matching, Slacks, Tree, Taken}

module _ (net : Net ℤ) (n : ℕ) (small : n < 65535) (next prior reached via : List ℕ) (a b slack : List ℤ) (t i : ℕ) (m : Matching n next prior) (long : length reached ≡ n)
    (tree : Tree net n prior reached via a b t) (slacks : Slacks net n (Reached prior reached) reached via a b slack) (few : t < 65535)
    (li : i < n) (open_i : at reached i ≡ 65535) (some : at via i ≡ 65535 → ⊥) (zero : at_z slack i ≡ pos 0) where
  marked : List ℕ
  marked = set reached i t

  pub mark_at : at (set reached i t) i ≡ t
  mark_at = get_or-set_same reached i t 0 (omega arith)

  mark_other : (k : ℕ) → k ≢ i → at (set reached i t) k ≡ at reached k
  mark_other k ne = get_or-set_other reached i k t 0 ne

  -- what is not reached now was not reached before
  pub mark_was : (k : ℕ) → at (set reached i t) k ≡ 65535 → at reached k ≡ 65535
  mark_was k e =
      elim (cases_eq k i) [
        | inl q ↦ let z : at (set reached i t) i ≡ 65535 = cc in let y = mark_at in omega arith
        | inr ne ↦ sym (mark_other k ne) ∙ e
      ]

  -- the way back from a tail leads to one that was reached before
  back : (k : ℕ) → at reached (at prior (at via k)) < t → at (set reached i t) (at prior (at via k)) ≡ at reached (at prior (at via k))
  back k l = mark_other _ (λ z. let y : at reached (at prior (at via k)) ≡ 65535 = ap (at reached) z ∙ open_i in omega arith)

  pub mark_tree : Tree net n prior (set reached i t) via a b (t + 1)
  mark_tree =
      record {
        number = λ k l o.
            elim (cases_eq k i) [
              | inl q ↦ let y : at (set reached i t) k ≡ t = ap (at (set reached i t)) q ∙ mark_at in omega arith
              | inr ne ↦ let e = mark_other k ne in let old = tree.number k l (λ z. o (e ∙ z)) in omega arith
            ];
        source = λ k l o.
            elim (cases_eq k i) [
              | inl q ↦
                  let s = slacks.hit i li open_i some in
                  rw q (s.0, s.2 ∙ ap Some (omega (arith, ints)))
              | inr ne ↦ tree.source k l (λ z. o (mark_other k ne ∙ z))
            ];
        before = λ k l o.
            elim (cases_eq k i) [
              | inl q ↦
                  let s = slacks.hit i li open_i some in
                  let y : at (set reached i t) i ≡ t = mark_at in
                  rw q (elim s.1 [
                    | inl e ↦ inl e
                    | inr r ↦
                        elim (cases_eq (at prior (at via i)) 65535) [
                          | inl e ↦ inl e
                          | inr f ↦
                              let lt = tree.number (at prior (at via i)) (m.back (at via i) s.0 f).0 r in
                              let e = back i lt in
                              inr (omega arith)
                        ]
                  ])
              | inr ne ↦
                  let e = mark_other k ne in
                  let old = tree.number k l (λ z. o (e ∙ z)) in
                  elim (tree.before k l (λ z. o (e ∙ z))) [
                    | inl x ↦ inl x
                    | inr x ↦ let y = back k (omega arith) in inr (omega arith)
                  ]
            ];
      }

  pub mark_slacks : Slacks net n (Reached prior reached) (set reached i t) via a b slack
  mark_slacks =
      record {
        low = λ k j v lk lj o r e. slacks.low k j v lk lj (mark_was k o) r e;
        hit = λ k lk o f. slacks.hit k lk (mark_was k o) f;
      }

  -- a head that is reached now was reached before, or is the head of i
  pub mark_old : (j : ℕ) → j < n → Reached prior (set reached i t) j → Reached prior reached j ⊎ (j ≡ at next i)
  mark_old j lj (inl e) = inl (inl e)
  mark_old j lj (inr r) =
      elim (cases_eq (at prior j) i) [
        | inl q ↦ inr (let y = (m.back j lj (λ z. omega arith)).1 in sym y ∙ ap (at next) q)
        | inr ne ↦ inl (inr (λ z. r (mark_other (at prior j) ne ∙ z)))
      ]

  -- a head that was reached still is
  pub mark_still : (j : ℕ) → j < n → Reached prior reached j → Reached prior (set reached i t) j
  mark_still j lj (inl e) = inl e
  mark_still j lj (inr r) = inr (λ z. r (mark_was (at prior j) z))

  -- the head of i is reached now
  pub mark_now : (at next i ≡ 65535 → ⊥) → Reached prior (set reached i t) (at next i)
  mark_now f = let q = (m.out i li f).1 in inr (λ z. let y = mark_at in let y' : at (set reached i t) i ≡ 65535 = sym (ap (at (set reached i t)) q) ∙ z in omega arith)

  pub mark_taken : Taken n next reached → (at next i ≡ 65535 → ⊥) → Taken n next (set reached i t)
  mark_taken k f =
      record {
        matched = λ x lx o s.
            elim (cases_eq x i) [
              | inl q ↦ f (sym (ap (at next) q) ∙ s)
              | inr ne ↦ k.matched x lx (λ z. o (mark_other x ne ∙ z)) s
            ];
      }
