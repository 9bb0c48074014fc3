-- How far the prices lie from zero at one place of the rows: at the start of a growth, after each of its steps, and at its end. Assumes nothing.
use Rattle.std.proofs.Common.{◌≡◌, ℕ, ◌+◌, ◌*◌, ◌<◌, ◌≤◌, ◌≢◌, ◌⊎◌, List, length, set, ℤ, pos, ◌+ℤ◌, ◌-ℤ◌, Some, None, Option, refl, ◌∙◌, inl, inr, arith}
use borrow.Author.Differences.{ints}
use Rattle.std.specs.Option.{option_map}
use Rattle.std.proofs.lemmas.Bool.{cases_eq}
use Rattle.rows.proofs.Bounds.{small_weaker}
use Rattle.rows.specs.Places.{most, kept, Near, Small, weight}
use Rattle.duties.specs.Duties.{Net}
use Rattle.matchings.specs.Tables.{at, at_z, Reached, free}
use Rattle.matchings.specs.Rowed.{place, weights, places, PlacesNear, weighed, Bounded, Fine, Calm, Spread, Ranged}
use Rattle.matchings.proofs.RaiseKeeps.{reached?}
use Rattle.matchings.proofs.RowPlaces.{places_near}
use Rattle.matchings.proofs.TableEntries.{entry_two, entry_three}

-- a link in weights is a link in rows
pub unweighed : (o : Option (List ℤ)) (v : ℤ) → option_map weight o ≡ Some v → (r : List ℤ) × (o ≡ Some r) × (weight r ≡ v)
unweighed None v e = let z : ◌≡◌ {A = ℕ} 0 1 = cc in absurd (omega arith)
unweighed (Some r) v e = (r, refl, cc)

-- a link in weights goes to a later trip
pub weighed_forward : (c : ℕ) (net : Net (List ℤ)) → Bounded c net → (i j : ℕ) (v : ℤ) → (weighed net).link i j ≡ Some v → i < j
weighed_forward c net bd i j v e = let u = unweighed (net.link i j) v e in bd.forward i j u.0 u.1

-- the places of a fine row are near
pub fine_near : (c : ℕ) (r : List ℤ) → Fine c r → PlacesNear 2000000000 r
fine_near c r f = places_near 2000000000 r f.small

pub fine_small : (c : ℕ) (r : List ℤ) → Fine c r → Small most r
fine_small c r f = small_weaker 2000000000 most (omega arith) r f.small

-- ---- one place

module _ (n : ℕ) (few : n ≤ 4000) (prior reached : List ℕ) (a b : List ℤ) (h : ℤ) (t : ℕ) (lt : t ≤ n) (x : Ranged n prior reached a b h t) where
  pub range_head : (j : ℕ) → j < n → Near 10000000000000000 (at_z a j)
  range_head j l =
      let p = x.hull in
      elim (reached? prior reached j) [
        | inl r ↦ let z = x.spread.head_in j l r in (omega (arith, ints), omega (arith, ints))
        | inr r ↦ let z = x.spread.head_out j l r in (omega (arith, ints), omega (arith, ints))
      ]

  pub range_tail : (i : ℕ) → i < n → Near 10000000000000000 (at_z b i)
  range_tail i l =
      let p = x.hull in
      elim (cases_eq (at reached i) 65535) [
        | inl o ↦ let z = x.spread.tail_out i l o in (omega (arith, ints), omega (arith, ints))
        | inr o ↦ let z = x.spread.tail_in i l o in (omega (arith, ints), omega (arith, ints))
      ]

  -- the slack of a tail, by the link that has it
  pub range_slack : (i j : ℕ) (v s : ℤ) → i < n → j < n → Near 2000000000 v → v ≡ (s +ℤ (at_z b i +ℤ at_z a j)) → Near 40000000000000000 s
  range_slack i j v s li lj sv e =
      let y = range_head j lj in
      let z = range_tail i li in
      (omega (arith, ints), omega (arith, ints))

module _ (n : ℕ) (prior reached : List ℕ) (a b a' b' : List ℤ) (h d h' : ℤ) (t : ℕ) (eh : h' ≡ (h +ℤ d))
    (ra : (j : ℕ) → j < n → Reached prior reached j → at_z a' j ≡ (at_z a j +ℤ d)) (oa : (j : ℕ) → j < n → (Reached prior reached j → ⊥) → at_z a' j ≡ at_z a j)
    (rb : (i : ℕ) → i < n → (at reached i ≡ 65535 → ⊥) → at_z b' i ≡ (at_z b i -ℤ d)) (ob : (i : ℕ) → i < n → at reached i ≡ 65535 → at_z b' i ≡ at_z b i) where
  pub spread_raise : Spread n prior reached a b h t → Spread n prior reached a' b' h' t
  spread_raise x =
      record {
        head_in = λ j l r. let z = x.head_in j l r in let e = ra j l r in (omega (arith, ints), omega (arith, ints));
        tail_in = λ i l o. let z = x.tail_in i l o in let e = rb i l o in (omega (arith, ints), omega (arith, ints));
        head_out = λ j l r. let z = x.head_out j l r in let e = oa j l r in (omega (arith, ints), omega (arith, ints));
        tail_out = λ i l o. let z = x.tail_out i l o in let e = ob i l o in (omega (arith, ints), omega (arith, ints));
      }

module _ (n : ℕ) (few : n ≤ 4000) (next prior reached : List ℕ) (a b : List ℤ) (h : ℤ) (t : ℕ) (lt : t < n) (x : Spread n prior reached a b h t)
    (i f : ℕ) (li : i < n) (lf : f < n) (open_i : at reached i ≡ 65535) (rf : Reached prior reached f) (v : ℤ) (sv : Near 2000000000 v) (ev : v ≡ (at_z b i +ℤ at_z a f)) where
  -- the price of leaving the tail that is reached now
  range_new : Near ((2 * t + 2) * 2000000000) (at_z b i +ℤ h)
  range_new = let z = x.head_in f lf rf in (omega (arith, ints), omega (arith, ints))

  -- the hull price, by the link that is met
  pub range_hull : Near 48018000000000 h
  range_hull = let z = x.head_in f lf rf in let y = x.tail_out i li open_i in (omega (arith, ints), omega (arith, ints))

  module _ (old : (j : ℕ) → j < n → Reached prior (set reached i t) j → Reached prior reached j ⊎ (j ≡ at next i)) (still : (j : ℕ) → j < n → Reached prior reached j → Reached prior (set reached i t) j)
      (was : (k : ℕ) → at (set reached i t) k ≡ 65535 → at reached k ≡ 65535) (oth : (k : ℕ) → k ≢ i → at (set reached i t) k ≡ at reached k) where
    -- where the tail has a head, which is reached now
    pub range_mark : (w : ℤ) → Near 2000000000 w → w ≡ (at_z b i +ℤ at_z a (at next i)) → Ranged n prior (set reached i t) a b h (t + 1)
    range_mark w sw ew =
        let new = range_new in
        record {
          spread = record {
            head_in = λ j l r. elim (old j l r) [
              | inl y ↦ let z = x.head_in j l y in (omega (arith, ints), omega (arith, ints))
              | inr e ↦ rw e (omega (arith, ints), omega (arith, ints))
            ];
            tail_in = λ k l o. elim (cases_eq k i) [
              | inl e ↦ rw e (omega (arith, ints), omega (arith, ints))
              | inr ne ↦ let z = x.tail_in k l (λ y. o (oth k ne ∙ y)) in (omega (arith, ints), omega (arith, ints))
            ];
            head_out = λ j l r. x.head_out j l (λ y. r (still j l y));
            tail_out = λ k l o. x.tail_out k l (was k o);
          };
          hull = range_hull;
        }

  -- where that tail has no head, its price is that of its homecoming, and so the hull price is near
  pub range_end : Near 2000000000 (at_z b i) → Calm n a b h
  range_end hi =
      let z = x.head_in f lf rf in
      let ph : Near 16006000000000 h = (omega (arith, ints), omega (arith, ints)) in
      record {
        head = λ j l. elim (reached? prior reached j) [
          | inl r ↦ let y = x.head_in j l r in (omega (arith, ints), omega (arith, ints))
          | inr r ↦ x.head_out j l r
        ];
        tail = λ k l. elim (cases_eq (at reached k) 65535) [
          | inl o ↦ x.tail_out k l o
          | inr o ↦ let y = x.tail_in k l o in (omega (arith, ints), omega (arith, ints))
        ];
        hull = ph;
      }

-- after a raise that ends with a hull price of zero
pub range_rest : (n : ℕ) → n ≤ 4000 → (prior reached : List ℕ) (a b : List ℤ) (h : ℤ) (t : ℕ) → t ≤ n → Spread n prior reached a b h t → h ≡ pos 0 → Calm n a b h
range_rest n few prior reached a b h t lt x eh =
    record {
      head = λ j l. elim (reached? prior reached j) [
        | inl r ↦ let y = x.head_in j l r in (omega (arith, ints), omega (arith, ints))
        | inr r ↦ x.head_out j l r
      ];
      tail = λ k l. elim (cases_eq (at reached k) 65535) [
        | inl o ↦ x.tail_out k l o
        | inr o ↦ let y = x.tail_in k l o in (omega (arith, ints), omega (arith, ints))
      ];
      hull = (omega (arith, ints), omega (arith, ints));
    }

-- where a growth begins
pub range_start : (n : ℕ) (prior reached : List ℕ) (a b o : List ℤ) (h : ℤ) → Calm n a b h → ((k : ℕ) → k < n → at reached k ≡ 65535) → ((j : ℕ) → j < n → Reached prior reached j → Near 2000000000 (at_z a j -ℤ h)) → Ranged n prior reached a b h 0
range_start n prior reached a b o h c blank free =
    record {
      spread = record {
        head_in = λ j l r. let z = free j l r in (omega (arith, ints), omega (arith, ints));
        tail_in = λ k l o. absurd (o (blank k l));
        head_out = λ j l r. c.head j l;
        tail_out = λ k l o. c.tail k l;
      };
      hull = let z = c.hull in (omega (arith, ints), omega (arith, ints));
    }

-- ---- tables of values

module _ {V : Type 0} (row : V → List ℤ) (count : ℕ) (long : (v : V) → length (row v) ≡ count) (near : (v : V) → kept (row v) ≡ row v) (net : Net (List ℤ)) (bd : Bounded count net) where
  -- a link that weighs what entries of two tables, or three, weigh
  pub link_two : (k m : ℕ) (xs ys : List V) (i j : ℕ) → i < length xs → j < length ys → (weighed net).link k m ≡ Some (at_z (weights row xs) i +ℤ at_z (weights row ys) j) → (q : ℕ) → (v : ℤ) × Near 2000000000 v × (v ≡ (at_z (places row q xs) i +ℤ at_z (places row q ys) j))
  link_two k m xs ys i j li lj e q =
      let u = unweighed (net.link k m) _ e in
      let f = bd.link k m u.0 u.1 in
      (place q u.0, fine_near count u.0 f q, entry_two row count long near u.0 f.long (fine_small count u.0 f) xs ys i j li lj u.2 q)

  pub link_three : (k m : ℕ) (xs ys zs : List V) (i j l : ℕ) → i < length xs → j < length ys → l < length zs → (weighed net).link k m ≡ Some (at_z (weights row xs) i +ℤ (at_z (weights row ys) j +ℤ at_z (weights row zs) l)) → (q : ℕ) → (v : ℤ) × Near 2000000000 v × (v ≡ (at_z (places row q xs) i +ℤ (at_z (places row q ys) j +ℤ at_z (places row q zs) l)))
  link_three k m xs ys zs i j l li lj ll e q =
      let u = unweighed (net.link k m) _ e in
      let f = bd.link k m u.0 u.1 in
      (place q u.0, fine_near count u.0 f q, entry_three row count long near u.0 f.long (fine_small count u.0 f) xs ys zs i j l li lj ll u.2 q)
