-- One step of a flip: a tail takes the head by which it was reached. Assumes nothing.
use Rattle.std.proofs.Common.{◌≡◌, ℕ, ◌<◌, ◌≢◌, List, length, set, sym, ap, ◌∙◌, inl, inr, arith, get_or-set_other, length-set, get_or-set_same}
use Rattle.std.proofs.lemmas.Bool.{cases_eq}
use Rattle.matchings.specs.Tables.{at}
use Rattle.matchings.specs.Sound.{Matching}
use Rattle.matchings.specs.Flips.{Changed, Flipping, Flipped}
use Rattle.matchings.proofs.Counts.{free_same, free_less}

module _ (n : ℕ) (small : n < 65535) (s q : List ℕ) (m : Matching n s q) where
  in_s : (k : ℕ) → k < n → k < length s
  in_s k l = let e = m.next_long in omega arith

  in_q : (k : ℕ) → k < n → k < length q
  in_q k l = let e = m.prior_long in omega arith

  -- a tail without a head takes a head without a tail
  attach : (i j : ℕ) → i < n → j < n → at s i ≡ 65535 → at q j ≡ 65535 → Matching n (set s i j) (set q j i)
  attach i j li lj loose none =
      let si : at (set s i j) i ≡ j = get_or-set_same s i j 0 (in_s i li) in
      let qj : at (set q j i) j ≡ i = get_or-set_same q j i 0 (in_q j lj) in
      record {
        next_long = length-set s i j ∙ m.next_long;
        prior_long = length-set q j i ∙ m.prior_long;
        out = λ k l nz.
            elim (cases_eq k i) [
              | inl e ↦ let sk : at (set s i j) k ≡ j = cc in let qk : at (set q j i) (at (set s i j) k) ≡ k = cc in (omega arith, qk)
              | inr ne ↦
                  let es = get_or-set_other s i k j 0 ne in
                  let old = m.out k l (λ z. nz (es ∙ z)) in
                  let ne' : at s k ≢ j = λ z. let k1 : at q j ≡ k = cc in omega arith in
                  let eq = get_or-set_other q j (at s k) i 0 ne' in
                  (omega arith, cc)
            ];
        back = λ k l nz.
            elim (cases_eq k j) [
              | inl e ↦ let qk : at (set q j i) k ≡ i = cc in let sk : at (set s i j) (at (set q j i) k) ≡ k = cc in (omega arith, sk)
              | inr ne ↦
                  let eq = get_or-set_other q j k i 0 ne in
                  let old = m.back k l (λ z. nz (eq ∙ z)) in
                  let ne' : at q k ≢ i = λ z. let k1 : at s i ≡ k = cc in omega arith in
                  let es = get_or-set_other s i (at q k) j 0 ne' in
                  (omega arith, cc)
            ];
      }

  -- a tail without a head takes a head from its tail p, which then has none
  retake : (i j p : ℕ) → i < n → j < n → at s i ≡ 65535 → at q j ≡ p → p ≢ 65535 → Matching n (set (set s i j) p 65535) (set q j i)
  retake i j p li lj loose ep some =
      let pj = m.back j lj (λ z. some (sym ep ∙ z)) in
      let lp : p < n = let z = pj.0 in omega arith in
      let sp : at s p ≡ j = ap (at s) (sym ep) ∙ pj.1 in
      let ip : i ≢ p = λ z. let z' : at s i ≡ j = cc in omega arith in
      let inp : p < length (set s i j) = simp length-set (in_s p lp) in
      let s2p : at (set (set s i j) p 65535) p ≡ 65535 = get_or-set_same (set s i j) p 65535 0 inp in
      let s2i : at (set (set s i j) p 65535) i ≡ j = get_or-set_other (set s i j) p i 65535 0 ip ∙ get_or-set_same s i j 0 (in_s i li) in
      let qj : at (set q j i) j ≡ i = get_or-set_same q j i 0 (in_q j lj) in
      record {
        next_long = length-set (set s i j) p 65535 ∙ length-set s i j ∙ m.next_long;
        prior_long = length-set q j i ∙ m.prior_long;
        out = λ k l nz.
            elim (cases_eq k i) [
              | inl e ↦ let sk : at (set (set s i j) p 65535) k ≡ j = cc in let qk : at (set q j i) (at (set (set s i j) p 65535) k) ≡ k = cc in (omega arith, qk)
              | inr ne ↦
                  let np : k ≢ p = λ z. nz (ap (at (set (set s i j) p 65535)) z ∙ s2p) in
                  let es : at (set (set s i j) p 65535) k ≡ at s k = get_or-set_other (set s i j) p k 65535 0 np ∙ get_or-set_other s i k j 0 ne in
                  let old = m.out k l (λ z. nz (es ∙ z)) in
                  let ne' : at s k ≢ j = λ z. np (let k1 : k ≡ p = cc in k1) in
                  let eq = get_or-set_other q j (at s k) i 0 ne' in
                  (omega arith, cc)
            ];
        back = λ k l nz.
            elim (cases_eq k j) [
              | inl e ↦ let qk : at (set q j i) k ≡ i = cc in let sk : at (set (set s i j) p 65535) (at (set q j i) k) ≡ k = cc in (omega arith, sk)
              | inr ne ↦
                  let eq = get_or-set_other q j k i 0 ne in
                  let old = m.back k l (λ z. nz (eq ∙ z)) in
                  let ni : at q k ≢ i = λ z. let k1 : at s i ≡ k = cc in omega arith in
                  let np : at q k ≢ p = λ z. ne (let k1 : k ≡ j = cc in k1) in
                  let es : at (set (set s i j) p 65535) (at q k) ≡ at s (at q k) = get_or-set_other (set s i j) p (at q k) 65535 0 np ∙ get_or-set_other s i (at q k) j 0 ni in
                  (omega arith, cc)
            ];
      }

module _ (n : ℕ) (small : n < 65535) (reached via s q : List ℕ) (i : ℕ) (s' q' : List ℕ) (f : Flipping n reached via s q i s' q') where
  -- what is changed where the tail i takes the head j by which it was reached
  flip_changed : (j : ℕ) → j ≡ at via i → j < n → (s'' : List ℕ) → at s'' i ≡ j → ((k : ℕ) → k ≢ i → (at s'' k ≡ 65535 → ⊥) → at s'' k ≡ at s' k) → Changed n reached via s q s'' (set q' j i)
  flip_changed j ej lj s'' at_i at_k =
      record {
        pair = λ k l nz.
            elim (cases_eq k i) [
              | inl e ↦ inr (λ z. let z' : at reached i ≡ 65535 = cc in let num = f.numbered in omega arith, cc)
              | inr ne ↦
                  let es = at_k k ne nz in
                  elim (f.changed.pair k l (λ z. nz (es ∙ z))) [ inl e ↦ inl (es ∙ e) | inr e ↦ inr (e.0, es ∙ e.1) ]
            ];
        head = λ k l none.
            let lq : j < length q' = let e = f.matching.prior_long in omega arith in
            elim (cases_eq k j) [
              | inl e ↦ let z : at (set q' j i) j ≡ i = get_or-set_same q' j i 0 lq in let z' : at (set q' j i) j ≡ 65535 = cc in let li = f.within in omega arith
              | inr ne ↦ f.changed.head k l (sym (get_or-set_other q' j k i 0 ne) ∙ none)
            ];
      }

  -- the head had no tail: the flip is done
  pub flip_last : (j : ℕ) → j ≡ at via i → at q' j ≡ 65535 → Flipped n reached via s q (set s' i j) (set q' j i)
  flip_last j ej none =
      let num = f.numbered in
      let li = f.within in
      let lj : j < n = let z = f.climb.source i li (λ e. omega arith) in omega arith in
      let ls : i < length s' = let e = f.matching.next_long in omega arith in
      let lq : j < length q' = let e = f.matching.prior_long in omega arith in
      let si : at (set s' i j) i ≡ j = get_or-set_same s' i j 0 ls in
      record {
        matching = attach n small s' q' f.matching i j li lj f.loose none;
        changed = flip_changed j ej lj (set s' i j) si (λ k ne _. get_or-set_other s' i k j 0 ne);
        tail = λ k l none'.
            elim (cases_eq k i) [
              | inl e ↦ let z : j ≡ 65535 = cc in omega arith
              | inr ne ↦ f.tail k l ne (sym (get_or-set_other s' i k j 0 ne) ∙ none')
            ];
        count = free_less q' j i lq none (λ e. omega arith) ∙ f.count;
      }

  -- the head had the tail p, which is in hand now
  pub flip_more : (j p : ℕ) → j ≡ at via i → at q' j ≡ p → p ≢ 65535 → Flipping n reached via s q p (set (set s' i j) p 65535) (set q' j i)
  flip_more j p ej ep some =
      let num = f.numbered in
      let li = f.within in
      let lj : j < n = let z = f.climb.source i li (λ e. omega arith) in omega arith in
      let ls : i < length s' = let e = f.matching.next_long in omega arith in
      let lq : j < length q' = let e = f.matching.prior_long in omega arith in
      let pj = f.matching.back j lj (λ z. some (sym ep ∙ z)) in
      let lp : p < n = let z = pj.0 in omega arith in
      let sp : at s' p ≡ j = ap (at s') (sym ep) ∙ pj.1 in
      let ip : i ≢ p = λ z. let z' : at s' i ≡ j = cc in let lo = f.loose in omega arith in
      let inp : p < length (set s' i j) = let e = f.matching.next_long in simp length-set (omega arith) in
      let s2p : at (set (set s' i j) p 65535) p ≡ 65535 = get_or-set_same (set s' i j) p 65535 0 inp in
      let s2i : at (set (set s' i j) p 65535) i ≡ j = get_or-set_other (set s' i j) p i 65535 0 ip ∙ get_or-set_same s' i j 0 ls in
      let lower : at reached p < at reached i =
      elim (f.climb.before i li (λ e. omega arith) (omega arith)) [
        | inl e ↦ absurd (some (let z : p ≡ 65535 = cc in z))
        | inr l ↦ let z : at reached p ≡ at reached (at q' (at via i)) = cc in omega arith
      ] in
      record {
        within = lp;
        numbered = omega arith;
        loose = s2p;
        matching = retake n small s' q' f.matching i j p li lj f.loose ep some;
        climb = record {
          source = f.climb.source;
          before = λ k l o le.
              let old = f.climb.before k l o (omega arith) in
              let ne : at via k ≢ j = λ z. elim old [
                | inl e ↦ some (let y : p ≡ 65535 = cc in y)
                | inr lt ↦ let y : at reached p ≡ at reached (at q' (at via k)) = cc in omega arith
              ] in
              let eq = get_or-set_other q' j (at via k) i 0 ne in
              elim old [ inl e ↦ inl (eq ∙ e) | inr lt ↦ inr (let y : at reached (at (set q' j i) (at via k)) ≡ at reached (at q' (at via k)) = cc in omega arith) ];
        };
        changed = flip_changed j ej lj (set (set s' i j) p 65535) s2i
            (λ k ne nz. let np : k ≢ p = λ z. nz (ap (at (set (set s' i j) p 65535)) z ∙ s2p) in get_or-set_other (set s' i j) p k 65535 0 np ∙ get_or-set_other s' i k j 0 ne);
        tail = λ k l np none.
            elim (cases_eq k i) [
              | inl e ↦ let z : j ≡ 65535 = cc in omega arith
              | inr ne ↦ f.tail k l ne (sym (get_or-set_other (set s' i j) p k 65535 0 np ∙ get_or-set_other s' i k j 0 ne) ∙ none)
            ];
        count = free_same q' j i lq (λ e. some (sym ep ∙ e)) (λ e. omega arith) ∙ f.count;
      }
