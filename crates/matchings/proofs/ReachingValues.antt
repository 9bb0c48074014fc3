-- One step of a growth, in tables of values: what it needs of their ranges, and what holds after it. Assumes nothing.
use Rattle.std.proofs.Common.{◌≡◌, ℕ, ◌+◌, ◌<◌, ◌≤◌, List, length, get_or, set, ℤ, pos, ◌+ℤ◌, ◌≤ℤ◌, Some, sym, ◌∙◌, arith, get_or-set_other}
use borrow.Author.Differences.{ints}
use Rattle.rows.specs.Places.{added, kept, Near, weight}
use Rattle.duties.specs.Duties.{Net}
use Rattle.matchings.specs.Tables.{at, at_z, Scan, Reached, RaiseHeads, RaiseTails, Least}
use Rattle.matchings.specs.Rowed.{place, weights, places, PlacesNear, TableNear, SlacksNear, weighed, Bounded, Spread, Ranged}
use Rattle.matchings.specs.Sound.{Tree, Raised}
use Rattle.matchings.specs.Growths.{Stands, Rests, Growing}
use Rattle.matchings.proofs.Counts.{free_less}
use Rattle.matchings.proofs.MarkKeeps.{mark_was, mark_old, mark_still}
use Rattle.matchings.proofs.Ranges.{weighed_forward, fine_near, fine_small, range_head, range_tail, range_slack, spread_raise, range_hull, range_mark, range_end, link_two, link_three}
use Rattle.matchings.proofs.Reaching.{raised, ended, grown}
use Rattle.matchings.proofs.RowPlaces.{plus_weight}
use Rattle.matchings.proofs.TableEntries.{weights_at, places_at, value_sum, entry_same, entry_plus, entry_minus, entry_row}

module _ {V : Type 0} (row : V → List ℤ) (count : ℕ) (long : (v : V) → length (row v) ≡ count) (near : (v : V) → kept (row v) ≡ row v) (net : Net (List ℤ)) (bd : Bounded count net)
    (n : ℕ) (few : n ≤ 4000) (next prior reached via : List ℕ) (a b slack : List V) (h : V) (t : ℕ)
    (st : Stands row net n next prior a b h) (sk : Growing row net n next prior reached via a b slack h t) where
  pub t_le : t ≤ n
  t_le = let c = sk.searching.count in omega arith

  pub near_heads : TableNear row 40000000000000000 a
  near_heads = record { all = λ j l q. let z = range_head n few prior reached (places row q a) (places row q b) (place q (row h)) t t_le (sk.ranged q) j (let e = st.a_long in omega arith) in (omega (arith, ints), omega (arith, ints)) }

  pub near_tails : TableNear row 40000000000000000 b
  near_tails = record { all = λ j l q. let z = range_tail n few prior reached (places row q a) (places row q b) (place q (row h)) t t_le (sk.ranged q) j (let e = st.b_long in omega arith) in (omega (arith, ints), omega (arith, ints)) }

  slack_at : (i : ℕ) → i < n → at reached i ≡ 65535 → (at via i ≡ 65535 → ⊥) → (q : ℕ) → Near 40000000000000000 (at_z (places row q slack) i)
  slack_at i li o f q =
      let s = sk.searching.slacks.hit i li o f in
      let u = link_three row count long near net bd i (at via i) slack b a i i (at via i) (let e = sk.slack_long in omega arith) (let e = st.b_long in omega arith) (let e = st.a_long in let z = s.0 in omega arith) s.2 q in
      range_slack n few prior reached (places row q a) (places row q b) (place q (row h)) t t_le (sk.ranged q) i (at via i) u.0 (at_z (places row q slack) i) li s.0 u.1 u.2

  pub near_slacks : SlacksNear row 40000000000000000 reached via slack
  near_slacks = record { all = λ i l o f q. slack_at i (let e = sk.slack_long in omega arith) o f q }

  -- no slack is below zero
  slack_up : (i : ℕ) → i < n → at reached i ≡ 65535 → (at via i ≡ 65535 → ⊥) → pos 0 ≤ℤ at_z (weights row slack) i
  slack_up i li o f =
      let s = sk.searching.slacks.hit i li o f in
      let z = st.sound.feasible.pair i (at via i) _ li s.0 s.2 in
      omega (arith, ints)

  pub hull_near : PlacesNear 48018000000000 (row h)
  hull_near q = (sk.ranged q).hull

  -- how far the prices lie from the hull price after a raise
  module _ (d : V) (a' b' slack' : List V) (h' : V) (la : length a' ≡ length a) (lb : length b' ≡ length b) (eh : weight (row h') ≡ (weight (row h) +ℤ weight (row d)))
      (heads : RaiseHeads prior reached (weight (row d)) (length reached) (weights row a) (weights row a'))
      (tails : RaiseTails reached via (weight (row d)) (length reached) (weights row b) (weights row b') (weights row slack) (weights row slack')) where
    pub spread_after : (q : ℕ) → Spread n prior reached (places row q a') (places row q b') (place q (row h')) t
    spread_after q =
        let lo = sk.searching.reached_long in
        let ea = st.a_long in
        let eb = st.b_long in
        spread_raise n prior reached (places row q a) (places row q b) (places row q a') (places row q b') (place q (row h)) (place q (row d)) (place q (row h')) t
        (value_sum row count long near h' h d eh q)
        (λ j l r. entry_plus row count long near a' a j j d (omega arith) (omega arith) (heads.moved j (omega arith) r) q)
        (λ j l r. entry_same row count long near a' a j j (omega arith) (omega arith) (heads.others j (omega arith) r) q)
        (λ i l o. entry_minus row count long near b' b i i d (omega arith) (omega arith) (tails.moved i (omega arith) o).0 q)
        (λ i l o. entry_same row count long near b' b i i (omega arith) (omega arith) (tails.others i (omega arith) o) q)
        (sk.ranged q).spread

  module _ (i : ℕ) (least : Least reached (weights row slack) via n (Some i)) where
    t_lt : t < n
    t_lt =
        let c = sk.searching.count in
        let lo = sk.searching.reached_long in
        let l = least.0 in
        let z = free_less reached i 0 (omega arith) least.1 (λ e. omega arith) in
        omega arith

    module _ (d : V) (read : d ≡ get_or slack i d) where
      -- the least slack is near
      pub step_near : PlacesNear 40000000000000000 (row d)
      step_near q =
          let l = least.0 in
          let e = places_at row q slack i d (let e = sk.slack_long in omega arith) read in
          let z = slack_at i l least.1 least.2 q in
          (omega (arith, ints), omega (arith, ints))

      step_is : weight (row d) ≡ at_z (weights row slack) i
      step_is = let l = least.0 in sym (weights_at row slack i d (let e = sk.slack_long in omega arith) read)

      hull_is : (h' : V) → row h' ≡ kept (added (row h) (row d)) → weight (row h') ≡ (weight (row h) +ℤ weight (row d))
      hull_is h' e = plus_weight 48018000000000 40000000000000000 (row h) (row d) (row h') (long h ∙ sym (long d)) hull_near step_near (omega arith) e

      module _ (a' b' slack' : List V) (h' : V) (la : length a' ≡ length a) (lb : length b' ≡ length b) (ls : length slack' ≡ length slack) (eh : row h' ≡ kept (added (row h) (row d)))
          (heads : RaiseHeads prior reached (weight (row d)) (length reached) (weights row a) (weights row a'))
          (tails : RaiseTails reached via (weight (row d)) (length reached) (weights row b) (weights row b') (weights row slack) (weights row slack')) where
        raised_to : Raised (weighed net) n next prior reached via (weights row a') (weights row b') (weights row slack') (weight (row h')) t i
        raised_to =
            raised (weighed net) n few next prior reached via (weights row a) (weights row b) (weights row slack) (weight (row h)) t i st.sound sk.searching least
            (weight (row d)) (weight (row h')) (weights row a') (weights row b') (weights row slack') (slack_up i least.0 least.1 least.2) step_is (hull_is h' eh) heads tails

        pub stands_to : Stands row net n next prior a' b' h'
        stands_to = record { a_long = la ∙ st.a_long; b_long = lb ∙ st.b_long; sound = raised_to.sound }

        pub hull_to : weight (row h') ≡ (weight (row h) +ℤ at_z (weights row slack) i)
        hull_to = let e = hull_is h' eh in let f = step_is in omega (arith, ints)

        spread_to : (q : ℕ) → Spread n prior reached (places row q a') (places row q b') (place q (row h')) t
        spread_to = spread_after d a' b' slack' h' la lb (hull_is h' eh) heads tails

        tree_to : Tree (weighed net) n prior (set reached i t) via (weights row a') (weights row b') (t + 1) × (at (set reached i t) i ≡ t)
        tree_to = ended (weighed net) n few next prior reached via (weights row a) (weights row b) (weights row slack) (weight (row h)) t i st.sound sk.searching least
            (weight (row h')) (weights row a') (weights row b') (weights row slack') raised_to

        -- the link by which i is reached
        by_link : (q : ℕ) → (v : ℤ) × Near 2000000000 v × (v ≡ (at_z (places row q b') i +ℤ at_z (places row q a') (at via i)))
        by_link q =
            let s = tree_to.0.source i least.0 (λ z. let y = tree_to.1 in let w = t_lt in omega arith) in
            let l = least.0 in
            let lf = s.0 in
            let ea = st.a_long in
            let eb = st.b_long in
            link_two row count long near net bd i (at via i) b' a' i (at via i) (omega arith) (omega arith) s.1 q

        open_via : Reached prior reached (at via i)
        open_via = (sk.searching.slacks.hit i least.0 least.1 least.2).1

        within_via : at via i < n
        within_via = (sk.searching.slacks.hit i least.0 least.1 least.2).0

        -- after the raise the hull price is near, by the link that is met
        ranged_to : (q : ℕ) → Ranged n prior reached (places row q a') (places row q b') (place q (row h')) t
        ranged_to q =
            let u = by_link q in
            record { spread = spread_to q; hull = range_hull n few next prior reached (places row q a') (places row q b') (place q (row h')) t t_lt (spread_to q) i (at via i) least.0 within_via least.1 open_via u.0 u.1 u.2 }

        pub near_heads_after : TableNear row 40000000000000000 a'
        near_heads_after = record { all = λ j l q. let z = range_head n few prior reached (places row q a') (places row q b') (place q (row h')) t t_le (ranged_to q) j (let e = st.a_long in omega arith) in (omega (arith, ints), omega (arith, ints)) }

        pub near_tails_after : TableNear row 40000000000000000 b'
        near_tails_after = record { all = λ j l q. let z = range_tail n few prior reached (places row q a') (places row q b') (place q (row h')) t t_le (ranged_to q) j (let e = st.b_long in omega arith) in (omega (arith, ints), omega (arith, ints)) }

        -- the tail has no head
        pub ends_to : at next i ≡ 65535 → Tree (weighed net) n prior (set reached i t) via (weights row a') (weights row b') (t + 1) × (at (set reached i t) i ≡ t) × Rests row n a' b' h'
        ends_to none =
            let l = least.0 in
            let eb = st.b_long in
            let homes : (q : ℕ) → Near 2000000000 (at_z (places row q b') i) = λ q.
            let f = bd.homes i in
            let e = entry_row row count long near (net.homes i) f.long (fine_small count (net.homes i) f) b' i (omega arith) (raised_to.sound.tight.tail i l none) q in
            let y = fine_near count (net.homes i) f q in
            (omega (arith, ints), omega (arith, ints)) in (
              tree_to.0,
              tree_to.1,
              record { at_place = λ q. let u = by_link q in range_end n few next prior reached (places row q a') (places row q b') (place q (row h')) t t_lt (spread_to q) i (at via i) l within_via least.1 open_via u.0 u.1 u.2 (homes q) },
            )

        -- the tail has a head, whose links are scanned
        pub further_to : (some : at next i ≡ 65535 → ⊥) (aj : ℤ) → aj ≡ at_z (weights row a') (at next i) → (slack'' : List V) (via'' : List ℕ) → length slack'' ≡ n → length via'' ≡ n
            → Scan (weighed net) (at next i) aj (weights row b') (set reached i t) (at next i) (weights row slack') (weights row slack'') via via''
            → Growing row net n next prior (set reached i t) via'' a' b' slack'' h' (t + 1)
        further_to some aj is slack'' via'' ls'' lf'' scan =
            let l = least.0 in
            let small : n < 65535 = omega arith in
            let lower : t < 65535 = let z = t_lt in omega arith in
            let m = st.sound.matching in
            let ea = st.a_long in
            let eb = st.b_long in
            let r = raised_to in
            let lo = sk.searching.reached_long in
            record {
              slack_long = ls'';
              searching = grown (weighed net) n few next prior reached via (weights row a) (weights row b) (weights row slack) (weight (row h)) t i st.sound sk.searching least
                  (weight (row h')) (weights row a') (weights row b') (weights row slack') raised_to (weighed_forward count net bd) some aj is (weights row slack'') via'' lf'' scan;
              ranged = λ q.
                  let u = by_link q in
                  let lj = (m.out i l some).0 in
                  let w = link_two row count long near net bd i (at next i) b' a' i (at next i) (omega arith) (omega arith) (r.sound.tight.pair i l some) q in
                  range_mark n few next prior reached (places row q a') (places row q b') (place q (row h')) t t_lt (spread_to q) i (at via i) l within_via least.1 open_via u.0 u.1 u.2
                  (mark_old (weighed net) n small next prior reached via (weights row a') (weights row b') (weights row slack') t i m lo r.tree r.slacks lower l least.1 least.2 r.zero)
                  (mark_still (weighed net) n small next prior reached via (weights row a') (weights row b') (weights row slack') t i m lo r.tree r.slacks lower l least.1 least.2 r.zero)
                  (mark_was (weighed net) n small next prior reached via (weights row a') (weights row b') (weights row slack') t i m lo r.tree r.slacks lower l least.1 least.2 r.zero)
                  (λ k ne. get_or-set_other reached i k t 0 ne)
                  w.0 w.1 w.2;
            }
