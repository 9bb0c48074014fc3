-- A growth begins: the tables that are cleared, and the slacks by the heads without a tail. Assumes nothing.
use Rattle.std.proofs.Common.{◌≡◌, ℕ, ◌<◌, List, length, ℤ, subst, inl, inr, arith}
use borrow.Author.Differences.{ints}
use Rattle.std.proofs.lemmas.Bool.{cases_eq}
use Rattle.rows.specs.Places.{kept}
use Rattle.duties.specs.Duties.{Net}
use Rattle.matchings.specs.Tables.{at, Reached, FreeBelow}
use Rattle.matchings.specs.Rowed.{place, weights, places, TableNear, weighed, Bounded}
use Rattle.matchings.specs.Sound.{Slacks}
use Rattle.matchings.specs.Growths.{Stands, Rests, Growing}
use Rattle.matchings.proofs.Counts.{free_all}
use Rattle.matchings.proofs.Ranges.{fine_near, fine_small, range_start}
use Rattle.matchings.proofs.ScanKeeps.{slacks_like}
use Rattle.matchings.proofs.TableEntries.{entry_row_plus}

module _ {V : Type 0} (row : V → List ℤ) (count : ℕ) (long : (v : V) → length (row v) ≡ count) (near : (v : V) → kept (row v) ≡ row v) where
  pub near_heads_rest : (n : ℕ) (a b : List V) (h : V) → length a ≡ n → Rests row n a b h → TableNear row 40000000000000000 a
  near_heads_rest n a b h la r = record { all = λ j l q. let z = (r.at_place q).head j (omega arith) in (omega (arith, ints), omega (arith, ints)) }

  pub near_tails_rest : (n : ℕ) (a b : List V) (h : V) → length b ≡ n → Rests row n a b h → TableNear row 40000000000000000 b
  near_tails_rest n a b h lb r = record { all = λ j l q. let z = (r.at_place q).tail j (omega arith) in (omega (arith, ints), omega (arith, ints)) }

  module _ (net : Net (List ℤ)) (bd : Bounded count net) where
    -- no tail is reached yet
    pub started : (n l : ℕ) (next prior reached via : List ℕ) (a b slack : List V) (h : V) → l ≡ n → Stands row net n next prior a b h → Rests row n a b h → length reached ≡ n → length via ≡ n → length slack ≡ n → ((k : ℕ) → k < l → at reached k ≡ 65535)
        → Slacks (weighed net) l (FreeBelow prior l) reached via (weights row a) (weights row b) (weights row slack) → Growing row net n next prior reached via a b slack h 0
    started n l next prior reached via a b slack h el st rests reached_long via_long slack_long blank₀ s₀ =
        let m = st.sound.matching in
        let blank : (k : ℕ) → k < n → at reached k ≡ 65535 = λ k lk. blank₀ k (omega arith) in
        let s = subst (λ v. Slacks (weighed net) v (FreeBelow prior v) reached via (weights row a) (weights row b) (weights row slack)) el s₀ in
        let bare : (j : ℕ) → j < n → Reached prior reached j → at prior j ≡ 65535 = λ j lj r. elim (cases_eq (at prior j) 65535) [ inl e ↦ e | inr f ↦ elim r [ inl e ↦ e | inr g ↦ absurd (g (blank (at prior j) (m.back j lj f).0)) ] ] in
        record {
          slack_long = slack_long;
          searching = record {
            reached_long = reached_long;
            via_long = via_long;
            slacks = slacks_like (weighed net) n (FreeBelow prior n) (Reached prior reached) reached via (weights row a) (weights row b) (weights row slack)
                (λ j lj r. record { below = lj; none = bare j lj r })
                (λ j lj r. inl r.none)
                s;
            tree = record { number = λ k l o. absurd (o (blank k l)); source = λ k l o. absurd (o (blank k l)); before = λ k l o. absurd (o (blank k l)) };
            taken = record { matched = λ k l o. absurd (o (blank k l)) };
            count = let e = free_all reached (λ k l. blank k (omega arith)) in omega arith;
          };
          ranged = λ q.
              range_start n prior reached (places row q a) (places row q b) (places row q b) (place q (row h)) (rests.at_place q) blank
              (λ j lj r.
              let f = bd.opens j in
              let la = st.a_long in
              let e = entry_row_plus row count long near (net.opens j) f.long (fine_small count (net.opens j) f) h a j (omega arith) (st.sound.tight.head j lj (bare j lj r)) q in
              let y = fine_near count (net.opens j) f q in
              (omega (arith, ints), omega (arith, ints)));
        }
