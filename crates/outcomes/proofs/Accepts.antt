-- Links that their prices bear out, with a hull price not below zero, and zero where the duties are fewer than the limit, keep the promise of a plan.
use Rattle.std.proofs.Common.{◌≡◌, ℕ, zero, suc, ◌+◌, ◌*◌, ◌<◌, ◌≤◌, false, ◌⊎◌, List, [], ◌∷◌, map, length, get_or, ℤ, pos, negsuc, ◌-ℤ◌, ◌*ℤ◌, neg_ℤ, ◌≤ℤ◌, is_some, unwrap_or, sym, refl, ap, ◌∙◌, subst, inl, inr, mul-le-mul_right, arith}
use borrow.Author.Differences.{ints}
use lib.IntN.{*ℤ_comm, *ℤ-negsuc}
use Rattle.std.proofs.lemmas.List.{get_or-map, get_or_default}
use Rattle.rows.specs.Places.{added, opposite, scaled, most, kept, Small, below, weight, wide}
use Rattle.rows.proofs.Bounds.{kept_same, small_weaker}
use Rattle.duties.specs.Duties.{Net, wholes, Links, Selection, Cover, positions, missing, sum_over, cost, below as upto}
use Rattle.duties.specs.Tables.{Table, duties_of}
use Rattle.duties.specs.Traces.{Traced, Tight}
use Rattle.duties.specs.Theorems.{Prices, price}
use Rattle.duties.specs.Rows.{zeros, less, cost_row, prices_of}
use Rattle.duties.specs.Plans.{Accepted}
use Rattle.duties.proofs.Duality.{bound}
use Rattle.duties.proofs.Corollaries.{cover_bound}
use Rattle.duties.proofs.Tightness.{tight_cost}
use Rattle.duties.proofs.InOrder.{duties_traced}
use Rattle.duties.proofs.Shapes.{some_mapped, selection_of, cover_of, table_of, duties_follow}
use Rattle.matchings.specs.Tables.{at, at_z, free}
use Rattle.matchings.specs.Rowed.{weighed, Bounded, weights, TableNear}
use Rattle.matchings.specs.Growths.{Stands, Rests}
use Rattle.matchings.proofs.RowPlaces.{places_near, small_from_near, minus_weight}
use Rattle.matchings.proofs.TableEntries.{weights_at, value_small, near_read}
use Rattle.matchings.proofs.Ranges.{weighed_forward}
use Rattle.outcomes.specs.Passes.{Totalled, Priced}
use Rattle.outcomes.proofs.RowSums.{Row, size, row_zeros, row_added, row_less, row_more, row_scaled, row_is, row_below, cost_row_lem, prices_row, length_upto, upto_within, missing_within, few_positions, few_duties}
use Rattle.outcomes.proofs.Successors.{number_is, as_table, as_tight}
use Rattle.outcomes.proofs.Totals.{summed, summed_at}

-- ---- whole numbers

same_product : (c l : ℕ) (z : ℤ) → (c ≡ l) ⊎ (z ≡ pos 0) → pos c *ℤ z ≡ z *ℤ pos l
same_product c l z (inl e) = *ℤ_comm (pos c) z ∙ ap (λ k. z *ℤ pos k) e
same_product c l z (inr e) = ap (λ y. pos c *ℤ y) e ∙ (let y : pos c *ℤ pos 0 ≡ pos 0 *ℤ pos l = omega (arith, ints) in y) ∙ ap (λ y. y *ℤ pos l) (sym e)

less_same : (s x y z : ℤ) → z ≡ s -ℤ x → x ≡ y → z ≡ s -ℤ y
less_same s x y z e f = omega (arith, ints)

-- a hull price not below zero is no less for more hulls
more_allowance : (h : ℤ) → pos 0 ≤ℤ h → (m n : ℕ) → m ≤ n → (pos m *ℤ h) ≤ℤ (pos n *ℤ h)
more_allowance (pos h) l m n le = let p = mul-le-mul_right h le in omega (arith, ints)
more_allowance (negsuc h) l m n le = absurd l.le

cheaper : (s x y z w c : ℤ) → (s -ℤ x) ≤ℤ c → x ≤ℤ y → y ≡ z → w ≡ z → (s -ℤ w) ≤ℤ c
cheaper s x y z w c l m e f = omega (arith, ints)

-- a multiple by a difference is the difference of the multiples
minus_times : (h : ℤ) (k l : ℕ) → h *ℤ (pos k -ℤ pos l) ≡ h *ℤ pos k -ℤ h *ℤ pos l
minus_times h k zero = let e : pos k -ℤ pos 0 ≡ pos k = omega (arith, ints) in ap (λ z. h *ℤ z) e ∙ (let f : h *ℤ pos k ≡ h *ℤ pos k -ℤ h *ℤ pos 0 = omega (arith, ints) in f)
minus_times h zero (suc l) = let e : pos 0 -ℤ pos (suc l) ≡ negsuc l = omega (arith, ints) in ap (λ z. h *ℤ z) e ∙ *ℤ-negsuc h l ∙ (let f : neg_ℤ (h *ℤ pos (suc l)) ≡ h *ℤ pos 0 -ℤ h *ℤ pos (suc l) = omega (arith, ints) in f)
minus_times h (suc k) (suc l) =
    let e : pos (suc k) -ℤ pos (suc l) ≡ pos k -ℤ pos l = omega (arith, ints) in
    ap (λ z. h *ℤ z) e ∙ minus_times h k l ∙ (let f : h *ℤ pos k -ℤ h *ℤ pos l ≡ h *ℤ pos (suc k) -ℤ h *ℤ pos (suc l) = omega (arith, ints) in f)

-- the bound from the plan's cost is the bound from all prices
from_cost : (s m x w d l c : ℤ) → ((s -ℤ m) -ℤ x) ≤ℤ c → x ≡ d → w ≡ s -ℤ l → (((w -ℤ m) -ℤ (d -ℤ l)) ≤ℤ c)
from_cost s m x w d l c b e f = omega (arith, ints)

size_less : (m n k : ℕ) → m ≤ k → n ≤ k → size (pos m -ℤ pos n) ≤ k
size_less m n k l r = by (pos m -ℤ pos n) refl
  where
    by : (z : ℤ) → pos m -ℤ pos n ≡ z → size z ≤ k
    by (pos x) e = let f : pos x ≤ℤ pos m = omega (arith, ints) in let g : pos x ≤ℤ pos k = omega (arith, ints) in omega (arith, ints)
    by (negsuc x) e = let g : pos (suc x) ≤ℤ pos n = omega (arith, ints) in omega (arith, ints)

module _ {V : Type 0} (row : V → List ℤ) (count : ℕ) (long : (v : V) → length (row v) ≡ count) (near : (v : V) → kept (row v) ≡ row v) (net : Net (List ℤ)) (bd : Bounded count net)
    (few : net.trips ≤ 200) (next prior : List ℕ) (a b : List V) (h : V) (st : Stands row net net.trips next prior a b h) (rests : Rests row net.trips a b h) where
  abbrev n : ℕ
  n = net.trips

  abbrev A : ℕ → ℤ
  A j = at_z (weights row a) j

  abbrev B : ℕ → ℤ
  B i = at_z (weights row b) i

  abbrev H : ℤ
  H = weight (row h)

  few_w : n < 65535
  few_w = omega arith

  are_prices : Prices (weighed net) A B H
  are_prices = record { open_ok = λ j l. st.sound.feasible.head j l; home_ok = λ i l. st.sound.feasible.tail i l; link_ok = λ i j c li lj e. st.sound.feasible.pair i j c li lj e }

  is_table : Table (weighed net) next
  is_table = as_table n few_w next prior st.sound.matching (weighed net) refl (λ i l f. let e = st.sound.tight.pair i l f in (weighed_forward count net bd i (at next i) _ e, ap is_some e))

  is_tight : Tight (weighed net) next A B H
  is_tight =
      as_tight n few_w next prior st.sound.matching (weighed net) refl A B H
      (λ j l z. st.sound.tight.head j l z) (λ i l z. st.sound.tight.tail i l z)
      (λ i l f. sym (ap (λ o. unwrap_or o (pos 0)) (st.sound.tight.pair i l f)))

  from_weighed : (i j : ℕ) → Links (weighed net) i j → Links net i j
  from_weighed i j l = sym (some_mapped weight (net.link i j)) ∙ l

  to_weighed : (i j : ℕ) → Links net i j → Links (weighed net) i j
  to_weighed i j l = some_mapped weight (net.link i j) ∙ l

  h_row : Row count (row h) H 16006000000000
  h_row = record { long = long h; weighs = refl; small = small_from_near 16006000000000 (row h) (λ q. (rests.at_place q).hull) }

  -- the prices that are written are rows of what they weigh
  pub written_row : (prices : List V) → length prices ≡ n → Priced row a b n prices → (k : ℕ) → k < n → Row count (get_or (map row prices) k []) (price A B k) most
  written_row prices lp paid k l =
      let lk : k < length prices = omega arith in
      let v = get_or prices k h in
      let e : get_or (map row prices) k [] ≡ row v = get_or-map row prices k h [] lk in
      record {
        long = ap length e ∙ long v;
        weighs = ap weight e ∙ sym (weights_at row prices k v lk (get_or_default prices k h v lk)) ∙ paid.each k l;
        small = subst (Small most) (sym e) (value_small row count long near v);
      }

  -- how far the prices of coming and of leaving lie from zero
  pub coming_near : TableNear row 32012000000000 a
  coming_near = record { all = λ j l q. (rests.at_place q).head j (let e = st.a_long in omega arith) }

  pub leaving_near : TableNear row 32012000000000 b
  leaving_near = record { all = λ i l q. (rests.at_place q).tail i (let e = st.b_long in omega arith) }

  -- the prices that would be written are rows of what they weigh, too
  pub summed_row : (k : ℕ) → k < n → Row count (get_or (summed row a b) k []) (price A B k) most
  summed_row k l =
      let la : k < length a = let e = st.a_long in omega arith in
      let lb : k < length b = let e = st.b_long in omega arith in
      let x = get_or a k h in
      let y = get_or b k h in
      let ex = get_or_default a k h x la in
      let ey = get_or_default b k h y lb in
      let rx : Row count (row x) (A k) 32012000000000 = record { long = long x; weighs = sym (weights_at row a k x la ex); small = small_from_near 32012000000000 (row x) (near_read row 32012000000000 a k x la ex coming_near) } in
      let ry : Row count (row y) (B k) 32012000000000 = record { long = long y; weighs = sym (weights_at row b k y lb ey); small = small_from_near 32012000000000 (row y) (near_read row 32012000000000 b k y lb ey leaving_near) } in
      subst (λ r. Row count r (price A B k) most) (sym (summed_at row a b k h la lb)) (row_more count _ _ (32012000000000 + 32012000000000) most (omega arith) (row_added count (row x) (row y) (A k) (B k) 32012000000000 32012000000000 rx ry))

  module _ (prices : List (List ℤ)) (lp : length prices ≡ n) (price_row : (k : ℕ) → k < n → Row count (get_or prices k []) (price A B k) most) (total : V) (paid : Totalled row a b n total)
      (number limit : ℕ) (by : ℤ) (is_by : by ≡ pos number) (hx whole : V) (ex : row hx ≡ kept (scaled by (row h))) (ec : row whole ≡ kept (added (row total) (opposite (row hx))))
      (fr : free prior ≡ number) (under : number ≤ limit) (limited : limit ≤ 200) (up : pos 0 ≤ℤ H) (last : (number ≡ limit) ⊎ (H ≡ pos 0)) where
    all_row : Row count (prices_of count prices (upto n)) (sum_over wholes (price A B) (upto n)) (n * most)
    all_row = subst (λ k. Row count (prices_of count prices (upto n)) (sum_over wholes (price A B) (upto n)) (k * most)) (length_upto n)
        (prices_row count n prices (price A B) most price_row (upto n) (upto_within n n (omega arith)))

    x_row : Row count (row hx) (H *ℤ pos number) 16006000000000000
    x_row =
        let s = row_more count (scaled (pos number) (row h)) (H *ℤ pos number) (number * 16006000000000) 16006000000000000 (omega arith) (row_scaled count (row h) H 16006000000000 (pos number) h_row) in
        let e : row hx ≡ scaled (pos number) (row h) = ex ∙ ap (λ z. kept (scaled z (row h))) is_by ∙ kept_same (scaled (pos number) (row h)) (small_weaker 16006000000000000 most (omega arith) (scaled (pos number) (row h)) s.small) in
        subst (λ r. Row count r (H *ℤ pos number) 16006000000000000) (sym e) s

    cost_weighs : weight (row whole) ≡ sum_over wholes (price A B) (upto n) -ℤ (H *ℤ pos number)
    cost_weighs =
        let w = minus_weight (n * 64024000000000) 16006000000000000 (row total) (row hx) (row whole) (long total ∙ sym (long hx)) paid.near (places_near 16006000000000000 (row hx) x_row.small) (omega arith) ec in
        w ∙ ap (λ z. z -ℤ weight (row hx)) paid.sum ∙ ap (λ z. sum_over wholes (price A B) (upto n) -ℤ z) x_row.weighs

    c_row : Row count (row whole) (sum_over wholes (price A B) (upto n) -ℤ (H *ℤ pos number)) most
    c_row = record { long = long whole; weighs = cost_weighs; small = value_small row count long near whole }

    -- what the hull price takes off the cost does not depend on whether the limit is reached
    same_hulls : H *ℤ pos number ≡ H *ℤ pos limit
    same_hulls = *ℤ_comm H (pos number) ∙ same_product number limit H last

    traced : Traced (weighed net) next (duties_of next)
    traced = duties_traced (weighed net) next is_table

    covers : Cover net (duties_of next)
    covers = cover_of (weighed net) net refl from_weighed (duties_of next) traced.cover

    counts : length (duties_of next) ≡ number
    counts = traced.number ∙ number_is n few_w next prior st.sound.matching ∙ fr

    cost_is : row whole ≡ cost_row count net (duties_of next)
    cost_is =
        let fp = few_positions net (duties_of next) covers.selection in
        let tc = tight_cost (weighed net) next A B H is_table is_tight (duties_of next) traced in
        row_is count (row whole) (cost_row count net (duties_of next)) _ _ most (length (positions (duties_of next)) * 4000000000) (omega arith) (let z = fp.0 in omega arith) c_row
        (cost_row_lem count net bd (duties_of next) covers.selection.duties)
        (sym (less_same _ _ _ _ tc (same_product (length (duties_of next)) number H (inl counts))))

    identity : row whole ≡ less (prices_of count prices (upto n)) (scaled (pos limit) (row h))
    identity =
        row_is count (row whole) (less (prices_of count prices (upto n)) (scaled (pos limit) (row h))) _ _ most (n * most + limit * 16006000000000) (omega arith) (omega arith) c_row
        (row_less count _ _ _ _ (n * most) (limit * 16006000000000) all_row (row_scaled count (row h) H 16006000000000 (pos limit) h_row))
        (ap (λ z. sum_over wholes (price A B) (upto n) -ℤ z) same_hulls)

    cheapest : (es : List (List ℕ)) → Cover net es → length es ≤ limit → below (cost_row count net es) (row whole) ≡ false
    cheapest es k le =
        let fq = few_positions net es k.selection in
        let k' = cover_of net (weighed net) refl to_weighed es k in
        row_below count (cost_row count net es) (row whole) (cost wholes (weighed net) es) _ (length (positions es) * 4000000000) most (let z = fq.0 in omega arith) (omega arith)
        (cost_row_lem count net bd es k.selection.duties) c_row
        (cheaper (sum_over wholes (price A B) (upto n)) _ _ _ _ _ (cover_bound (weighed net) A B H are_prices es k') (more_allowance H up (length es) limit le) (same_product limit limit H (inl refl)) same_hulls)

    bound_holds : (es : List (List ℕ)) → Selection net es
        → below (cost_row count net es) (less (less (row whole) (prices_of count prices (missing n (positions es)))) (scaled (pos (length es) -ℤ pos limit) (row h))) ≡ false
    bound_holds es s =
        let s' = selection_of net (weighed net) refl to_weighed es s in
        let fq = few_positions net es s in
        let fd = few_duties net es s.duties in
        let le : length es ≤ 200 = let z = fq.0 in omega arith in
        let sz = size_less (length es) limit 200 le limited in
        let mr = prices_row count n prices (price A B) most price_row (missing n (positions es)) (missing_within n (positions es)) in
        let hr = row_more count _ _ (size (pos (length es) -ℤ pos limit) * 16006000000000) (200 * 16006000000000) (let z = mul-le-mul_right 16006000000000 sz in omega arith) (row_scaled count (row h) H 16006000000000 (pos (length es) -ℤ pos limit) h_row) in
        let br = row_less count _ _ _ _ (most + length (missing n (positions es)) * most) (200 * 16006000000000) (row_less count _ _ _ _ most (length (missing n (positions es)) * most) c_row mr) hr in
        let br' = row_more count _ _ ((most + length (missing n (positions es)) * most) + 200 * 16006000000000) wide (let z = fq.1 in omega arith) br in
        row_below count (cost_row count net es) _ (cost wholes (weighed net) es) _ (length (positions es) * 4000000000) wide (let z = fq.0 in omega arith) (omega arith)
        (cost_row_lem count net bd es s.duties) br'
        (rw (minus_times H (length es) limit)
        (from_cost (sum_over wholes (price A B) (upto n)) (sum_over wholes (price A B) (missing n (positions es))) _ _ _ (H *ℤ pos limit) _ (bound (weighed net) A B H are_prices es s') (same_product (length es) (length es) H (inl refl)) (ap (λ z. sum_over wholes (price A B) (upto n) -ℤ z) same_hulls)))

    pub accepted : Accepted count net limit next prices number (row whole) (row h)
    accepted =
        let tab = table_of (weighed net) net refl from_weighed next is_table in
        record {
          entries = tab;
          cover = covers;
          follows = duties_follow net next tab;
          number_is = sym counts;
          within_limit = under;
          cost_is = cost_is;
          priced = lp;
          identity = identity;
          hull_up = row_below count (row h) (zeros count) H (pos 0) 16006000000000 0 (omega arith) (omega arith) h_row (row_zeros count 0) up;
          bound = bound_holds;
          cheapest = cheapest;
        }
