-- The raise after which the hull price is zero. Assumes nothing.
use Rattle.std.proofs.Common.{◌≡◌, ℕ, ◌≤◌, List, length, replicate, ℤ, pos, ◌+ℤ◌, neg_ℤ, ◌≤ℤ◌, ap, ◌∙◌, arith}
use borrow.Author.Differences.{ints}
use Rattle.rows.proofs.Weights.{weight_opposite}
use Rattle.rows.specs.Places.{opposite, kept, weight}
use Rattle.duties.specs.Duties.{Net}
use Rattle.matchings.specs.Tables.{RaiseHeads, RaiseTails}
use Rattle.matchings.specs.Rowed.{place, weights, places, PlacesNear, weighed, Bounded}
use Rattle.matchings.specs.Growths.{Stands, Rests, Halt}
use Rattle.matchings.proofs.Ranges.{range_rest}
use Rattle.matchings.proofs.Reaching.{lifted}
use Rattle.matchings.proofs.ReachingValues.{t_le, hull_near, spread_after}
use Rattle.matchings.proofs.RowPlaces.{weight_zeros, place_zeros, place_opposite}

module _ {V : Type 0} (row : V → List ℤ) (count : ℕ) (long : (v : V) → length (row v) ≡ count) (near : (v : V) → kept (row v) ≡ row v) where
  module _ (net : Net (List ℤ)) (bd : Bounded count net) (n : ℕ) (few : n ≤ 4000) (next prior reached via : List ℕ) (a b slack : List V) (h : V)
      (st : Stands row net n next prior a b h) (halt : Halt row net n next prior reached via a b slack h) (low : weight (row h) ≤ℤ pos 0)
      (d : V) (ed : row d ≡ opposite (row h)) where
    -- the raise is near
    pub down_near : PlacesNear 40000000000000000 (row d)
    down_near q =
        let z = hull_near row count long near net bd n few next prior reached via a b slack h halt.t st halt.growing q in
        let e : place q (row d) ≡ neg_ℤ (place q (row h)) = ap (place q) ed ∙ place_opposite q (row h) in
        (omega (arith, ints), omega (arith, ints))

    down_weight : weight (row d) ≡ neg_ℤ (weight (row h))
    down_weight = ap weight ed ∙ weight_opposite (row h)

    module _ (a' b' slack' : List V) (h' : V) (la : length a' ≡ length a) (lb : length b' ≡ length b) (eh : row h' ≡ replicate count (pos 0))
        (heads : RaiseHeads prior reached (weight (row d)) (length reached) (weights row a) (weights row a'))
        (tails : RaiseTails reached via (weight (row d)) (length reached) (weights row b) (weights row b') (weights row slack) (weights row slack')) where
      pub settle_zero : weight (row h') ≡ pos 0
      settle_zero = ap weight eh ∙ weight_zeros count

      sum_zero : weight (row h') ≡ (weight (row h) +ℤ weight (row d))
      sum_zero = let z = settle_zero in let y = down_weight in omega (arith, ints)

      pub settle_stands : Stands row net n next prior a' b' h'
      settle_stands =
          let y = down_weight in
          record {
            a_long = la ∙ st.a_long;
            b_long = lb ∙ st.b_long;
            sound = lifted (weighed net) n few next prior reached via (weights row a) (weights row b) (weights row slack) (weight (row h)) halt.t st.sound halt.growing.searching
                (weight (row d)) (weight (row h')) (weights row a') (weights row b') (weights row slack') (omega (arith, ints)) (λ k l o f. let z = halt.low k l o f in omega (arith, ints)) sum_zero heads tails;
          }

      pub settle_rests : Rests row n a' b' h'
      settle_rests =
          record {
            at_place = λ q. range_rest n few prior reached (places row q a') (places row q b') (place q (row h')) halt.t (t_le row count long near net bd n few next prior reached via a b slack h halt.t st halt.growing)
                (spread_after row count long near net bd n few next prior reached via a b slack h halt.t st halt.growing d a' b' slack' h' la lb sum_zero heads tails q)
                (ap (place q) eh ∙ place_zeros q count);
          }
