-- Before the first growth: nothing is linked, and the hull price is so low that no link costs less than its prices. Assumes nothing.
use Rattle.std.proofs.Common.{◌≡◌, ℕ, ◌+◌, ◌<◌, ◌≢◌, List, length, set, replicate, ℤ, pos, negsuc, ◌+ℤ◌, ◌≤ℤ◌, Some, sym, ap, ◌∙◌, inl, inr, arith, get_or-set_other, get_or-set_same, below_more}
use borrow.Author.Differences.{ints}
use Rattle.std.proofs.lemmas.List.{length-replicate}
use Rattle.std.proofs.lemmas.Bool.{cases_lt}
use Rattle.rows.proofs.Bounds.{length_added}
use Rattle.rows.proofs.Weights.{weight_added}
use Rattle.rows.specs.Places.{added, kept, weight}
use Rattle.duties.specs.Duties.{Net}
use Rattle.matchings.specs.Tables.{at, at_z, free}
use Rattle.matchings.specs.Rowed.{place, weights, PlacesNear, Bounded}
use Rattle.matchings.specs.Growths.{Stands, Rests, Opened}
use Rattle.matchings.proofs.Counts.{free_all}
use Rattle.matchings.proofs.Ranges.{unweighed, fine_near, fine_small}
use Rattle.matchings.proofs.RowPlaces.{place_added, plus_weight, weight_le, place_filled_or_zero, place_over, place_filled, weight_zeros}
use Rattle.matchings.proofs.TableEntries.{weights_length, weights_set, entry_row, entry_row_plus}

module _ {V : Type 0} (row : V → List ℤ) (count : ℕ) (long : (v : V) → length (row v) ≡ count) (near : (v : V) → kept (row v) ≡ row v) where
  -- a row of -6,000,000,000 in each place
  pub start_near : (z : V) → row z ≡ replicate count (negsuc 5999999999) → PlacesNear 6000000000 (row z)
  start_near z e q = elim (place_filled_or_zero q count (negsuc 5999999999)) [ inl f ↦ (let y : place q (row z) ≡ negsuc 5999999999 = ap (place q) e ∙ f in (omega (arith, ints), omega (arith, ints))) | inr f ↦ (let y : place q (row z) ≡ pos 0 = ap (place q) e ∙ f in (omega (arith, ints), omega (arith, ints))) ]

  module _ (net : Net (List ℤ)) (bd : Bounded count net) (h : V) (nh : PlacesNear 6000000000 (row h)) where
    -- one more trip is priced
    pub opened_more : (k : ℕ) (a b : List V) → Opened row net h k a b → k < length a → k < length b → (o x y : V) → row o ≡ net.opens k → row x ≡ kept (added (row o) (row h)) → row y ≡ net.homes k → Opened row net h (k + 1) (set a k x) (set b k y)
    opened_more k a b op la lb o x y eo ex ey =
        let f = bd.opens k in
        let no : PlacesNear 2000000000 (row o) = λ q. let z = fine_near count (net.opens k) f q in let e : place q (row o) ≡ place q (net.opens k) = ap (place q) eo in (omega (arith, ints), omega (arith, ints)) in
        let w = plus_weight 2000000000 6000000000 (row o) (row h) (row x) (long o ∙ sym (long h)) no nh (omega arith) ex in
        let wo : weight (row o) ≡ weight (net.opens k) = ap weight eo in
        let na = weights_length row a in
        let nb = weights_length row b in
        let la' : k < length (weights row a) = omega arith in
        let lb' : k < length (weights row b) = omega arith in
        record {
          head = below_more _ k
              (λ j l. let ne : j ≢ k = omega arith in ap (λ zs. at_z zs j) (weights_set row a k x) ∙ get_or-set_other (weights row a) k j (weight (row x)) (pos 0) ne ∙ op.head j l)
              (ap (λ zs. at_z zs k) (weights_set row a k x) ∙ get_or-set_same (weights row a) k (weight (row x)) (pos 0) la' ∙ w ∙ ap (λ z. z +ℤ weight (row h)) wo);
          tail = below_more _ k
              (λ j l. let ne : j ≢ k = omega arith in ap (λ zs. at_z zs j) (weights_set row b k y) ∙ get_or-set_other (weights row b) k j (weight (row y)) (pos 0) ne ∙ op.tail j l)
              (ap (λ zs. at_z zs k) (weights_set row b k y) ∙ get_or-set_same (weights row b) k (weight (row y)) (pos 0) lb' ∙ ap weight ey);
        }

    module _ (n : ℕ) (next prior : List ℕ) (a b : List V) (la : length a ≡ n) (lb : length b ≡ n) (ls : length next ≡ n) (lp : length prior ≡ n) (eh : row h ≡ replicate count (negsuc 5999999999))
        (no_next : (k : ℕ) → k < length next → at next k ≡ 65535) (no_prior : (k : ℕ) → k < length prior → at prior k ≡ 65535) (op : Opened row net h n a b) where
      bare_next : (k : ℕ) → k < n → at next k ≡ 65535
      bare_next k l = no_next k (omega arith)

      bare_prior : (k : ℕ) → k < n → at prior k ≡ 65535
      bare_prior k l = no_prior k (omega arith)

      -- the hull price begins so low that no link costs less than its two prices
      low_enough : (i j : ℕ) (r : List ℤ) → net.link i j ≡ Some r → (weight (net.homes i) +ℤ (weight (net.opens j) +ℤ weight (row h))) ≤ℤ weight r
      low_enough i j r e =
          let fr = bd.link i j r e in
          let fo = bd.opens j in
          let fh = bd.homes i in
          let l1 : length (net.opens j) ≡ length (row h) = fo.long ∙ sym (long h) in
          let l2 : length (net.homes i) ≡ length (added (net.opens j) (row h)) = fh.long ∙ sym (length_added (net.opens j) (row h) l1 ∙ fo.long) in
          let w1 = weight_added (net.opens j) (row h) l1 in
          let w2 = weight_added (net.homes i) (added (net.opens j) (row h)) l2 in
          let le = weight_le (added (net.homes i) (added (net.opens j) (row h))) r (length_added (net.homes i) (added (net.opens j) (row h)) l2 ∙ fh.long ∙ sym fr.long) (λ q.
          let p1 = place_added q (net.opens j) (row h) l1 in
          let p2 = place_added q (net.homes i) (added (net.opens j) (row h)) l2 in
          let xr = fine_near count r fr q in
          let xo = fine_near count (net.opens j) fo q in
          let xh = fine_near count (net.homes i) fh q in
          elim (cases_lt q count) [
            | inl l ↦ let y : place q (row h) ≡ negsuc 5999999999 = ap (place q) eh ∙ place_filled q count (negsuc 5999999999) l in omega (arith, ints)
            | inr l ↦
                let lr = fr.long in
                let z1 = place_over q r (omega arith) in
                let lo = fo.long in
                let z2 = place_over q (net.opens j) (omega arith) in
                let lh = fh.long in
                let z3 = place_over q (net.homes i) (omega arith) in
                let lz = long h in
                let z4 = place_over q (row h) (omega arith) in
                omega (arith, ints)
          ]) in
          omega (arith, ints)

      pub opened_stands : Stands row net n next prior a b h
      opened_stands =
          record {
            a_long = la;
            b_long = lb;
            sound = record {
              matching = record { next_long = ls; prior_long = lp; out = λ i l f. absurd (f (bare_next i l)); back = λ j l f. absurd (f (bare_prior j l)) };
              feasible = record {
                pair = λ i j v li lj e.
                    let u = unweighed (net.link i j) v e in
                    let x = op.tail i li in
                    let y = op.head j lj in
                    let z = low_enough i j u.0 u.1 in
                    let w = u.2 in
                    omega (arith, ints);
                tail = λ i l. let x = op.tail i l in omega (arith, ints);
                head = λ j l. let y = op.head j l in omega (arith, ints);
              };
              tight = record {
                pair = λ i l f. absurd (f (bare_next i l));
                tail = λ i l _. op.tail i l;
                head = λ j l _. op.head j l;
              };
            };
          }

      pub opened_rests : Rests row n a b h
      opened_rests =
          record {
            at_place = λ q.
                let zh = nh q in
                record {
                  head = λ j l.
                      let f = bd.opens j in
                      let e = entry_row_plus row count long near (net.opens j) f.long (fine_small count (net.opens j) f) h a j (omega arith) (op.head j l) q in
                      let y = fine_near count (net.opens j) f q in
                      (omega (arith, ints), omega (arith, ints));
                  tail = λ i l.
                      let f = bd.homes i in
                      let e = entry_row row count long near (net.homes i) f.long (fine_small count (net.homes i) f) b i (omega arith) (op.tail i l) q in
                      let y = fine_near count (net.homes i) f q in
                      (omega (arith, ints), omega (arith, ints));
                  hull = (omega (arith, ints), omega (arith, ints));
                };
          }

      pub opened_free : free prior ≡ n
      opened_free = free_all prior no_prior ∙ lp

      pub opened_low : weight (row h) ≤ℤ pos 0
      opened_low =
          let z = weight_le (row h) (replicate count (pos 0)) (long h ∙ sym (length-replicate count (pos 0))) (λ q.
          elim (cases_lt q count) [
            | inl l ↦ let y : place q (row h) ≡ negsuc 5999999999 = ap (place q) eh ∙ place_filled q count (negsuc 5999999999) l in let w = place_filled q count (pos 0) l in omega (arith, ints)
            | inr l ↦ let lz = long h in let y = place_over q (row h) (omega arith) in let lw = length-replicate count (pos 0) in let w = place_over q (replicate count (pos 0)) (omega arith) in omega (arith, ints)
          ]) in
          let w = weight_zeros count in
          omega (arith, ints)
