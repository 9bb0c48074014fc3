-- One more place of a raise. Assumes nothing.
use Rattle.std.proofs.Common.{◌≡◌, ℕ, ◌+◌, ◌<◌, ◌≢◌, List, length, get_or, set, ℤ, pos, ◌+ℤ◌, ◌-ℤ◌, sym, ◌∙◌, subst, arith, get_or-set_other, get_or-set_same, below_more}
use borrow.Author.Differences.{ints}
use Rattle.rows.specs.Places.{added, opposite, kept, weight}
use Rattle.matchings.specs.Tables.{at, at_z, Reached, RaiseHeads, RaiseTails}
use Rattle.matchings.specs.Rowed.{weights, PlacesNear, TableNear, SlacksNear}
use Rattle.matchings.proofs.RowPlaces.{plus_weight, minus_weight}
use Rattle.matchings.proofs.TableEntries.{weights_length, weights_set, weights_at, near_as}

-- ---- in weights

module _ (prior reached : List ℕ) (d : ℤ) (k : ℕ) (a a' : List ℤ) (h : RaiseHeads prior reached d k a a') where
  pub head_put : (r : ℤ) → k < length a' → Reached prior reached k → r ≡ (at_z a' k +ℤ d) → RaiseHeads prior reached d (k + 1) a (set a' k r)
  head_put r within at_k is =
      let e = get_or-set_same a' k r (pos 0) within in
      let old = h.rest k (omega arith) in
      record {
        moved = below_more _ k (λ j l. let ne : j ≢ k = omega arith in rw (get_or-set_other a' k j r (pos 0) ne) (h.moved j l)) (λ _. rw e (rw old at is));
        others = below_more _ k (λ j l. let ne : j ≢ k = omega arith in rw (get_or-set_other a' k j r (pos 0) ne) (h.others j l)) (λ nay. absurd (nay at_k));
        rest = λ j l. let ne : j ≢ k = omega arith in rw (get_or-set_other a' k j r (pos 0) ne) (h.rest j (omega arith));
      }

  pub head_skip : (Reached prior reached k → ⊥) → RaiseHeads prior reached d (k + 1) a a'
  head_skip nay =
      record {
        moved = below_more _ k h.moved (λ y. absurd (nay y));
        others = below_more _ k h.others (λ _. h.rest k (omega arith));
        rest = λ j l. h.rest j (omega arith);
      }

module _ (reached via : List ℕ) (d : ℤ) (k : ℕ) (b b' s s' : List ℤ) (h : RaiseTails reached via d k b b' s s') where
  pub tail_put : (r : ℤ) → k < length b' → (at reached k ≡ 65535 → ⊥) → r ≡ (at_z b' k -ℤ d) → RaiseTails reached via d (k + 1) b (set b' k r) s s'
  tail_put r within nay is =
      let e = get_or-set_same b' k r (pos 0) within in
      let old = h.rest k (omega arith) in
      let other : (j : ℕ) → j ≢ k → at_z (set b' k r) j ≡ at_z b' j = λ j ne. get_or-set_other b' k j r (pos 0) ne in
      record {
        moved = below_more _ k (λ i l n. (other i (omega arith) ∙ (h.moved i l n).0, (h.moved i l n).1)) (λ _. (rw e (rw old.0 at is), old.1));
        others = below_more _ k (λ i l n. other i (omega arith) ∙ h.others i l n) (λ y. absurd (nay y));
        slack = below_more _ k h.slack (λ y. absurd (nay y));
        stale = below_more _ k h.stale (λ y. absurd (nay y));
        rest = λ j l. (other j (omega arith) ∙ (h.rest j (omega arith)).0, (h.rest j (omega arith)).1);
      }

  pub slack_put : (r : ℤ) → k < length s' → at reached k ≡ 65535 → (at via k ≡ 65535 → ⊥) → r ≡ (at_z s' k -ℤ d) → RaiseTails reached via d (k + 1) b b' s (set s' k r)
  slack_put r within yea nay is =
      let e = get_or-set_same s' k r (pos 0) within in
      let old = h.rest k (omega arith) in
      let other : (j : ℕ) → j ≢ k → at_z (set s' k r) j ≡ at_z s' j = λ j ne. get_or-set_other s' k j r (pos 0) ne in
      record {
        moved = below_more _ k (λ i l n. ((h.moved i l n).0, other i (omega arith) ∙ (h.moved i l n).1)) (λ n. absurd (n yea));
        others = below_more _ k h.others (λ _. old.0);
        slack = below_more _ k (λ i l o n. other i (omega arith) ∙ h.slack i l o n) (λ _ _. rw e (rw old.1 at is));
        stale = below_more _ k (λ i l o n. other i (omega arith) ∙ h.stale i l o n) (λ _ y. absurd (nay y));
        rest = λ j l. ((h.rest j (omega arith)).0, other j (omega arith) ∙ (h.rest j (omega arith)).1);
      }

  pub tail_skip : at reached k ≡ 65535 → at via k ≡ 65535 → RaiseTails reached via d (k + 1) b b' s s'
  tail_skip yea none =
      let old = h.rest k (omega arith) in
      record {
        moved = below_more _ k h.moved (λ n. absurd (n yea));
        others = below_more _ k h.others (λ _. old.0);
        slack = below_more _ k h.slack (λ _ n. absurd (n none));
        stale = below_more _ k h.stale (λ _ _. old.1);
        rest = λ j l. h.rest j (omega arith);
      }

-- ---- in values

module _ {V : Type 0} (row : V → List ℤ) (count : ℕ) (long : (v : V) → length (row v) ≡ count) (near : (v : V) → kept (row v) ≡ row v) where
  module _ (d : V) (step : PlacesNear 40000000000000000 (row d)) (k : ℕ) where
    pub heads_put : (prior reached : List ℕ) (a a' : List V) → RaiseHeads prior reached (weight (row d)) k (weights row a) (weights row a') → TableNear row 40000000000000000 a → length a' ≡ length a → k < length a' → (x r : V) → x ≡ get_or a' k x → Reached prior reached k → row r ≡ kept (added (row x) (row d))
        → RaiseHeads prior reached (weight (row d)) (k + 1) (weights row a) (weights row (set a' k r))
    heads_put prior reached a a' h all_near e l x r read moved is =
        let lx = near_as row count long near a a' k x 40000000000000000 l read (sym e) (h.rest k (omega arith)) (all_near.all k (omega arith)) in
        let w = plus_weight 40000000000000000 40000000000000000 (row x) (row d) (row r) (long x ∙ sym (long d)) lx step (omega arith) is in
        let here = weights_at row a' k x l read in
        let n = weights_length row a' in
        subst (λ z. RaiseHeads prior reached (weight (row d)) (k + 1) (weights row a) z) (sym (weights_set row a' k r))
        (head_put prior reached (weight (row d)) k (weights row a) (weights row a') h (weight (row r)) (omega arith) moved (omega (arith, ints)))

    module _ (reached via : List ℕ) (b b' s s' : List V) (h : RaiseTails reached via (weight (row d)) k (weights row b) (weights row b') (weights row s) (weights row s')) where
      pub tails_put : TableNear row 40000000000000000 b → length b' ≡ length b → k < length b' → (x r : V) → x ≡ get_or b' k x → (at reached k ≡ 65535 → ⊥) → row r ≡ kept (added (row x) (opposite (row d)))
          → RaiseTails reached via (weight (row d)) (k + 1) (weights row b) (weights row (set b' k r)) (weights row s) (weights row s')
      tails_put all_near e l x r read nay is =
          let lx = near_as row count long near b b' k x 40000000000000000 l read (sym e) (h.rest k (omega arith)).0 (all_near.all k (omega arith)) in
          let w = minus_weight 40000000000000000 40000000000000000 (row x) (row d) (row r) (long x ∙ sym (long d)) lx step (omega arith) is in
          let here = weights_at row b' k x l read in
          let n = weights_length row b' in
          subst (λ z. RaiseTails reached via (weight (row d)) (k + 1) (weights row b) z (weights row s) (weights row s')) (sym (weights_set row b' k r))
          (tail_put reached via (weight (row d)) k (weights row b) (weights row b') (weights row s) (weights row s') h (weight (row r)) (omega arith) nay (omega (arith, ints)))

      pub slacks_put : SlacksNear row 40000000000000000 reached via s → length s' ≡ length s → k < length s' → (x r : V) → x ≡ get_or s' k x → at reached k ≡ 65535 → (at via k ≡ 65535 → ⊥) → row r ≡ kept (added (row x) (opposite (row d)))
          → RaiseTails reached via (weight (row d)) (k + 1) (weights row b) (weights row b') (weights row s) (weights row (set s' k r))
      slacks_put all_near e l x r read yea nay is =
          let lx = near_as row count long near s s' k x 40000000000000000 l read (sym e) (h.rest k (omega arith)).1 (all_near.all k (omega arith) yea nay) in
          let w = minus_weight 40000000000000000 40000000000000000 (row x) (row d) (row r) (long x ∙ sym (long d)) lx step (omega arith) is in
          let here = weights_at row s' k x l read in
          let n = weights_length row s' in
          subst (λ z. RaiseTails reached via (weight (row d)) (k + 1) (weights row b) (weights row b') (weights row s) z) (sym (weights_set row s' k r))
          (slack_put reached via (weight (row d)) k (weights row b) (weights row b') (weights row s) (weights row s') h (weight (row r)) (omega arith) yea nay (omega (arith, ints)))
