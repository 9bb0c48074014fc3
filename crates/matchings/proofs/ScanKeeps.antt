-- A scan of one more head keeps what holds of the slacks and the reached tails. Assumes nothing.
use Rattle.std.proofs.Common.{◌≡◌, ℕ, ◌+◌, ◌<◌, ◌⊎◌, List, ℤ, ◌+ℤ◌, ◌≤ℤ◌, Some, None, Option, sym, refl, ap, ◌∙◌, inl, inr, ⊎_elim, arith}
use borrow.Author.Differences.{ints}
use Rattle.std.proofs.lemmas.Bool.{cases_eq, cases_lt}
use Rattle.duties.specs.Duties.{Net}
use Rattle.matchings.specs.Tables.{at, at_z, Scan, Scanned, FreeBelow}
use Rattle.matchings.specs.Sound.{Slacks, Tree}

module _ (net : Net ℤ) (n : ℕ) (forward : (i j : ℕ) (v : ℤ) → net.link i j ≡ Some v → i < j) (R R' : ℕ → Type 0) (reached via : List ℕ) (a b slack : List ℤ) (slacks : Slacks net n R reached via a b slack)
    (j : ℕ) (lj : j < n) (slack' : List ℤ) (via' : List ℕ) (scan : Scan net j (at_z a j) b reached j slack slack' via via')
    (old_or_j : (k : ℕ) → k < n → R' k → R k ⊎ (k ≡ j)) (still : (k : ℕ) → k < n → R k → R' k) (now_j : R' j) where
  -- the slack of a tail is as it was, or that of its link to j
  either : (i : ℕ) → at reached i ≡ 65535 → ((at_z slack' i ≡ at_z slack i) × (at via' i ≡ at via i) × (net.link i j ≡ None)) ⊎ ((v : ℤ) × (net.link i j ≡ Some v) × Scanned v (at_z b i) (at_z a j) j (at_z slack i) (at_z slack' i) (at via i) (at via' i))
  either i o =
      let by : (e : Option ℤ) → net.link i j ≡ e → ((at_z slack' i ≡ at_z slack i) × (at via' i ≡ at via i) × (net.link i j ≡ None)) ⊎ ((v : ℤ) × (net.link i j ≡ Some v) × Scanned v (at_z b i) (at_z a j) j (at_z slack i) (at_z slack' i) (at via i) (at via' i)) =
      λ e. elim e as (λ e. net.link i j ≡ e → ((at_z slack' i ≡ at_z slack i) × (at via' i ≡ at via i) × (net.link i j ≡ None)) ⊎ ((v : ℤ) × (net.link i j ≡ Some v) × Scanned v (at_z b i) (at_z a j) j (at_z slack i) (at_z slack' i) (at via i) (at via' i))) [
        | None ↦ λ q.
            elim (cases_lt i j) [
              | inl l ↦ let k = (scan.done i l).kept (inr q) in inl (k.0, k.1, q)
              | inr g ↦ let k = scan.rest i g in inl (k.0, k.1, q)
            ]
        | Some v ↦ λ q. inr (v, q, (scan.done i (forward i j v q)).seen v o q)
      ] in
      by (net.link i j) refl

  as_before : (i : ℕ) → i < n → at reached i ≡ 65535 → (at via' i ≡ 65535 → ⊥) → at_z slack' i ≡ at_z slack i → at via' i ≡ at via i
      → (at via' i < n) × R' (at via' i) × (net.link i (at via' i) ≡ Some (at_z slack' i +ℤ (at_z b i +ℤ at_z a (at via' i))))
  as_before i li o f es ef =
      let old = slacks.hit i li o (λ z. f (ef ∙ z)) in
      rw (ef, es) (old.0, still (at via i) old.0 old.1, old.2)

  pub scan_slacks : Slacks net n R' reached via' a b slack'
  scan_slacks =
      record {
        low = λ i k v li lk o r e.
            elim (old_or_j k lk r) [
              | inl r' ↦
                  let old = slacks.low i k v li lk o r' e in
                  elim (either i o) [
                    | inl w ↦ (λ z. old.0 (sym w.1 ∙ z), omega (arith, ints))
                    | inr w ↦ let s = w.2 in (s.some, elim s.which [ inl x ↦ omega (arith, ints) | inr x ↦ ⊎_elim (λ z. absurd (old.0 z)) (λ (z : at_z slack' i ≤ℤ at_z slack i). omega (arith, ints)) x.2 ])
                  ]
              | inr same ↦
                  let e' : net.link i j ≡ Some v = sym (ap (net.link i) same) ∙ e in
                  let s = (scan.done i (forward i j v e')).seen v o e' in
                  let ea : at_z a k ≡ at_z a j = ap (at_z a) same in
                  (s.some, let s' = s.least in omega (arith, ints))
            ];
        hit = λ i li o f.
            elim (either i o) [
              | inl w ↦ as_before i li o f w.0 w.1
              | inr w ↦
                  elim w.2.which [
                    | inl x ↦ as_before i li o f x.0 x.1
                    | inr x ↦
                        let ef : at via' i ≡ j = x.1 in
                        let es : w.0 ≡ (at_z slack' i +ℤ (at_z b i +ℤ at_z a j)) = let q = x.0 in omega (arith, ints) in
                        rw ef (lj, now_j, w.1 ∙ ap Some es)
                  ]
            ];
      }

-- slacks over heads that are the same
pub slacks_like : (net : Net ℤ) (n : ℕ) (R R' : ℕ → Type 0) (reached via : List ℕ) (a b slack : List ℤ) → ((j : ℕ) → j < n → R' j → R j) → ((j : ℕ) → j < n → R j → R' j) → Slacks net n R reached via a b slack → Slacks net n R' reached via a b slack
slacks_like net n R R' reached via a b slack f g s =
    record {
      low = λ i j v li lj o r e. s.low i j v li lj o (f j lj r) e;
      hit = λ i l o x. let t = s.hit i l o x in (t.0, g (at via i) t.0 t.1, t.2);
    }

module _ (net : Net ℤ) (n : ℕ) (forward : (i j : ℕ) (v : ℤ) → net.link i j ≡ Some v → i < j) (prior reached via : List ℕ) (a b slack : List ℤ) (k : ℕ) (lk : k < n) (s : Slacks net n (FreeBelow prior k) reached via a b slack) where
  -- the head k has a tail
  pub start_skip : (at prior k ≡ 65535 → ⊥) → Slacks net n (FreeBelow prior (k + 1)) reached via a b slack
  start_skip f =
      slacks_like net n (FreeBelow prior k) (FreeBelow prior (k + 1)) reached via a b slack
      (λ j lj r. record { below = elim (cases_eq j k) [ inl e ↦ absurd (f (sym (ap (at prior) e) ∙ r.none)) | inr ne ↦ let z = r.below in omega arith ]; none = r.none })
      (λ j lj r. record { below = let z = r.below in omega arith; none = r.none })
      s

  -- the head k has no tail, and is scanned
  pub start_more : at prior k ≡ 65535 → (aj : ℤ) → aj ≡ at_z a k → (slack' : List ℤ) (via' : List ℕ) → Scan net k aj b reached k slack slack' via via' → Slacks net n (FreeBelow prior (k + 1)) reached via' a b slack'
  start_more f aj is slack' via' scan =
      scan_slacks net n forward (FreeBelow prior k) (FreeBelow prior (k + 1)) reached via a b slack s k lk slack' via' (rw is at scan)
      (λ j lj r. elim (cases_eq j k) [ inl e ↦ inr e | inr ne ↦ inl (record { below = let z = r.below in omega arith; none = r.none }) ])
      (λ j lj r. record { below = let z = r.below in omega arith; none = r.none })
      (record { below = omega arith; none = f })

-- a scan leaves alone the heads by which tails were reached
pub tree_scan : (net : Net ℤ) (n : ℕ) (prior reached via : List ℕ) (a b : List ℤ) (t j : ℕ) (aj : ℤ) (slack slack' : List ℤ) (via' : List ℕ) → Scan net j aj b reached j slack slack' via via' → Tree net n prior reached via a b t → Tree net n prior reached via' a b t
tree_scan net n prior reached via a b t j aj slack slack' via' scan tree =
    let same : (k : ℕ) → (at reached k ≡ 65535 → ⊥) → at via' k ≡ at via k = λ k o. elim (cases_lt k j) [ inl l ↦ ((scan.done k l).kept (inl o)).1 | inr g ↦ (scan.rest k g).1 ] in
    record {
      number = tree.number;
      source = λ k l o. let e = same k o in rw e (tree.source k l o);
      before = λ k l o. let e = same k o in rw e (tree.before k l o);
    }
