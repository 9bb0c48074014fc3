-- How a growth ends: at a dead end, at a tail without a head, or where a raise would lift the hull price above zero. Assumes nothing.
use Rattle.std.proofs.Common.{◌≡◌, ℕ, ◌+◌, ◌<◌, ◌≤◌, Bool, true, false, List, length, get_or, ℤ, pos, ◌+ℤ◌, ◌≤ℤ◌, Some, None, sym, ◌∙◌, arith}
use borrow.Author.Differences.{ints}
use lib.Signed.{lt_z}
use Rattle.rows.specs.Places.{kept, weight}
use Rattle.duties.specs.Duties.{Net}
use Rattle.matchings.specs.Tables.{at, at_z, Least}
use Rattle.matchings.specs.Rowed.{weights, weighed, Bounded}
use Rattle.matchings.specs.Sound.{Tree, Closed}
use Rattle.matchings.specs.Growths.{Stands, Growing, Halt, Ready}
use Rattle.matchings.proofs.TableEntries.{weights_at}

module _ {V : Type 0} (row : V → List ℤ) (count : ℕ) (long : (v : V) → length (row v) ≡ count) (near : (v : V) → kept (row v) ≡ row v) (net : Net (List ℤ)) (bd : Bounded count net)
    (n : ℕ) (few : n ≤ 4000) (next prior reached via : List ℕ) (a b slack : List V) (h : V) (t : ℕ)
    (st : Stands row net n next prior a b h) (sk : Growing row net n next prior reached via a b slack h t) where
  -- there is no tail to reach
  pub halt_none : Least reached (weights row slack) via n None → Halt row net n next prior reached via a b slack h
  halt_none none = record { t = t; growing = sk; low = λ i l o f. absurd (f (none i l o)) }

  -- the least slack would lift the hull price above zero
  pub halt_dear : (i : ℕ) → Least reached (weights row slack) via n (Some i) → (d : V) → d ≡ get_or slack i d → (r : Bool) → r ≡ lt_z (pos 0) (weight (row h) +ℤ weight (row d)) → r ≡ true → Halt row net n next prior reached via a b slack h
  halt_dear i least d read r er yea =
      let l = least.0 in
      let e = weights_at row slack i d (let z = sk.slack_long in omega arith) read in
      let f : lt_z (pos 0) (weight (row h) +ℤ weight (row d)) ≡ true = sym er ∙ yea in
      record { t = t; growing = sk; low = λ k lk o g. let z = least.3 k lk o g in omega (arith, ints) }

  -- a raise that does not lift the hull price above zero
  pub not_over : (i : ℕ) → Least reached (weights row slack) via n (Some i) → (d : V) → d ≡ get_or slack i d → (r : Bool) → r ≡ lt_z (pos 0) (weight (row h) +ℤ weight (row d)) → r ≡ false → (x : ℤ) → x ≡ (weight (row h) +ℤ at_z (weights row slack) i) → x ≤ℤ pos 0
  not_over i least d read r er nay x ex =
      let l = least.0 in
      let e = weights_at row slack i d (let z = sk.slack_long in omega arith) read in
      let f : lt_z (pos 0) (weight (row h) +ℤ weight (row d)) ≡ false = sym er ∙ nay in
      omega (arith, ints)

  -- there is no tail to reach: a dead end
  pub closed : Least reached (weights row slack) via n None → Closed (weighed net) n next prior reached
  closed none = record { none = λ i j v li lj o r e. (sk.searching.slacks.low i j v li lj o r e).0 (none i li o); taken = sk.searching.taken }

  -- a tail without a head is reached
  pub ready : (i : ℕ) (reached' via' : List ℕ) (a' b' : List ℤ) → i < n → at next i ≡ 65535 → Tree (weighed net) n prior reached' via' a' b' (t + 1) → at reached' i ≡ t → Ready (weighed net) n next prior reached' via' a' b' i
  ready i reached' via' a' b' li loose r e =
      let c = sk.searching.count in
      record {
        within = li;
        loose = loose;
        numbered = omega arith;
        tree = record { number = λ k l o. let x = r.number k l o in omega arith; source = r.source; before = r.before };
      }
