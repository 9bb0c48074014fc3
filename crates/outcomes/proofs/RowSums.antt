-- What duties and prices come to in exact rows, by the weights of the rows.
use Rattle.std.proofs.Common.{◌≡◌, ℕ, zero, suc, ◌+◌, ◌*◌, ◌<◌, ◌≤◌, true, false, List, [], ◌∷◌, ◌++◌, length, get_or, ℤ, pos, negsuc, ◌+ℤ◌, ◌-ℤ◌, ◌*ℤ◌, neg_ℤ, ◌≤ℤ◌, is_some, Some, None, Option, unwrap_or, sym, refl, ap, ◌∙◌, arith, length-append}
use borrow.Author.Differences.{ints}
use Rattle.std.specs.List.{AllByRecursion as All}
use Rattle.std.proofs.lemmas.List.{length-map, length-replicate}
use Rattle.std.proofs.lemmas.Bool.{false≢true}
use Rattle.std.proofs.lemmas.Bool.Decides.{nat_tests}
use Rattle.std.specs.Option.{option_map}
use Rattle.rows.specs.Places.{added, opposite, scaled, Near, Small, below, weight, wide}
use Rattle.rows.proofs.Weights.{weight_added, weight_opposite, weight_scaled, weight_order}
use Rattle.rows.proofs.Bounds.{small_added, small_opposite, small_weaker, length_added, small_filled}
use Rattle.duties.specs.Duties.{Net, wholes, Linked, IsDuty, Selection, positions, missing, sum_over, link_cost, onward, duty_cost, cost, below as upto}
use Rattle.duties.specs.Rows.{zeros, less, row_sums, cost_row, prices_of}
use Rattle.duties.proofs.Occurs.{with_missing, alike_length, times_missing, all_from_times}
use Rattle.matchings.specs.Rowed.{weighed, Bounded, Fine}
use Rattle.matchings.proofs.RowPlaces.{weight_same, weight_zeros}

-- a row of c places, each within ±q, that weighs w
pub record Row (c : ℕ) (r : List ℤ) (w : ℤ) (q : ℕ) : Type 0 where
  pub long : length r ≡ c
  pub weighs : weight r ≡ w
  pub small : Small q r

pub row_zeros : (c q : ℕ) → Row c (zeros c) (pos 0) q
row_zeros c q = record { long = length-replicate c (pos 0); weighs = weight_zeros c; small = small_filled q c (pos 0) (omega (arith, ints), omega (arith, ints)) }

pub row_added : (c : ℕ) (r s : List ℤ) (v w : ℤ) (q u : ℕ) → Row c r v q → Row c s w u → Row c (added r s) (v +ℤ w) (q + u)
row_added c r s v w q u x y =
    let e = x.long ∙ sym y.long in
    let f = weight_added r s e in
    let a = x.weighs in
    let b = y.weighs in
    record { long = length_added r s e ∙ x.long; weighs = omega (arith, ints); small = small_added q u r s x.small y.small }

pub row_less : (c : ℕ) (r s : List ℤ) (v w : ℤ) (q u : ℕ) → Row c r v q → Row c s w u → Row c (less r s) (v -ℤ w) (q + u)
row_less c r s v w q u x y =
    let f = weight_opposite s in
    let b = y.weighs in
    let z = row_added c r (opposite s) v (neg_ℤ w) q u x (record { long = length-map s neg_ℤ ∙ y.long; weighs = omega (arith, ints); small = small_opposite u s y.small }) in
    let a = z.weighs in
    record { long = z.long; weighs = omega (arith, ints); small = z.small }

pub row_more : (c : ℕ) (r : List ℤ) (w : ℤ) (q u : ℕ) → q ≤ u → Row c r w q → Row c r w u
row_more c r w q u l x = record { long = x.long; weighs = x.weighs; small = small_weaker q u l r x.small }

-- ---- whole multiples

near_times : (q : ℕ) (x : ℤ) → Near q x → (k : ℕ) → Near (k * q) (x *ℤ pos k)
near_times q x h zero = (omega (arith, ints), omega (arith, ints))
near_times q x h (suc k) = let ih = near_times q x h k in (omega (arith, ints), omega (arith, ints))

-- the size of a whole number
abbrev pub size : ℤ → ℕ
size (pos k) = k
size (negsuc k) = suc k

near_product : (q : ℕ) (x : ℤ) → Near q x → (k : ℤ) → Near (size k * q) (x *ℤ k)
near_product q x h (pos k) = near_times q x h k
near_product q x h (negsuc k) = let ih = near_times q x h (suc k) in let e : x *ℤ negsuc k ≡ neg_ℤ (x *ℤ pos (suc k)) = omega (arith, ints) in (omega (arith, ints), omega (arith, ints))

small_scaled : (q : ℕ) (xs : List ℤ) → Small q xs → (k : ℤ) → Small (size k * q) (scaled k xs)
small_scaled q [] h k = tt
small_scaled q (x ∷ xs) h k = (near_product q x h.0 k, small_scaled q xs h.1 k)

pub row_scaled : (c : ℕ) (r : List ℤ) (w : ℤ) (q : ℕ) (k : ℤ) → Row c r w q → Row c (scaled k r) (w *ℤ k) (size k * q)
row_scaled c r w q k x = record { long = length-map r (λ y. y *ℤ k) ∙ x.long; weighs = weight_scaled k r ∙ ap (λ z. z *ℤ k) x.weighs; small = small_scaled q r x.small k }

-- ---- rows by their weights

-- rows with one weight are one row
pub row_is : (c : ℕ) (r s : List ℤ) (v w : ℤ) (q u : ℕ) → q ≤ wide → u ≤ wide → Row c r v q → Row c s w u → v ≡ w → r ≡ s
row_is c r s v w q u lq lu x y e = weight_same r s (x.long ∙ sym y.long) (small_weaker q wide lq r x.small) (small_weaker u wide lu s y.small) (x.weighs ∙ e ∙ sym y.weighs)

-- a row that weighs no less is not below
pub row_below : (c : ℕ) (r s : List ℤ) (v w : ℤ) (q u : ℕ) → q ≤ wide → u ≤ wide → Row c r v q → Row c s w u → w ≤ℤ v → below r s ≡ false
row_below c r s v w q u lq lu x y l =
    let o = weight_order r s (x.long ∙ sym y.long) (small_weaker q wide lq r x.small) (small_weaker u wide lu s y.small) in
    let a = x.weighs in
    let b = y.weighs in
    o ∙ sym (omega (arith, ints))

-- ---- duties and prices

row_fine : (c : ℕ) (r : List ℤ) → Fine c r → Row c r (weight r) 2000000000
row_fine c r f = record { long = f.long; weighs = refl; small = f.small }

module _ (c : ℕ) (net : Net (List ℤ)) (bd : Bounded c net) where
  link_row : (i j : ℕ) (o : Option (List ℤ)) → net.link i j ≡ o → is_some o ≡ true → Row c (unwrap_or o (zeros c)) (unwrap_or (option_map weight o) (pos 0)) 2000000000
  link_row i j None e h = absurd (false≢true h)
  link_row i j (Some r) e h = row_fine c r (bd.link i j r e)

  onward_row : (i : ℕ) (js : List ℕ) → Linked net i js → Row c (onward (row_sums c) net i js) (onward wholes (weighed net) i js) ((length js + 1) * 2000000000)
  onward_row i [] l = row_more c (net.homes i) (weight (net.homes i)) 2000000000 ((0 + 1) * 2000000000) (omega arith) (row_fine c (net.homes i) (bd.homes i))
  onward_row i (j ∷ js) l =
      row_more c _ _ (2000000000 + (length js + 1) * 2000000000) ((length (j ∷ js) + 1) * 2000000000) (omega arith)
      (row_added c (link_cost (row_sums c) net i j) (onward (row_sums c) net j js) (link_cost wholes (weighed net) i j) (onward wholes (weighed net) j js) 2000000000 ((length js + 1) * 2000000000) (link_row i j (net.link i j) refl l.0) (onward_row j js l.1))

  duty_row : (d : List ℕ) → IsDuty net d → Row c (duty_cost (row_sums c) net d) (duty_cost wholes (weighed net) d) (length d * 4000000000)
  duty_row [] l = absurd l
  duty_row (i ∷ js) l =
      row_more c _ _ (2000000000 + (length js + 1) * 2000000000) (length (i ∷ js) * 4000000000) (omega arith)
      (row_added c (net.opens i) (onward (row_sums c) net i js) (weight (net.opens i)) (onward wholes (weighed net) i js) 2000000000 ((length js + 1) * 2000000000) (row_fine c (net.opens i) (bd.opens i)) (onward_row i js l))

  pub cost_row_lem : (ds : List (List ℕ)) → All (IsDuty net) ds → Row c (cost_row c net ds) (cost wholes (weighed net) ds) (length (positions ds) * 4000000000)
  cost_row_lem [] l = row_zeros c (0 * 4000000000)
  cost_row_lem (d ∷ ds) l =
      let e = length-append d (positions ds) in
      row_more c _ _ (length d * 4000000000 + length (positions ds) * 4000000000) (length (d ++ positions ds) * 4000000000) (omega arith)
      (row_added c (duty_cost (row_sums c) net d) (cost_row c net ds) (duty_cost wholes (weighed net) d) (cost wholes (weighed net) ds) (length d * 4000000000) (length (positions ds) * 4000000000) (duty_row d l.0) (cost_row_lem ds l.1))

-- the prices of some trips together
pub prices_row : (c n : ℕ) (prices : List (List ℤ)) (f : ℕ → ℤ) (q : ℕ) → ((k : ℕ) → k < n → Row c (get_or prices k []) (f k) q) → (ks : List ℕ) → All (λ k. k < n) ks → Row c (prices_of c prices ks) (sum_over wholes f ks) (length ks * q)
prices_row c n prices f q h [] w = row_zeros c (0 * q)
prices_row c n prices f q h (k ∷ ks) w =
    row_more c _ _ (q + length ks * q) (length (k ∷ ks) * q) (omega arith)
    (row_added c (get_or prices k []) (prices_of c prices ks) (f k) (sum_over wholes f ks) q (length ks * q) (h k w.0) (prices_row c n prices f q h ks w.1))

-- ---- how many trips and duties there are

pub length_upto : (n : ℕ) → length (upto n) ≡ n
length_upto zero = refl
length_upto (suc n) = let ih = length_upto n in omega arith

pub upto_within : (n m : ℕ) → n ≤ m → All (λ k. k < m) (upto n)
upto_within zero m l = tt
upto_within (suc n) m l = (omega arith, upto_within n m (omega arith))

pub missing_within : (n : ℕ) (xs : List ℕ) → All (λ k. k < n) (missing n xs)
missing_within n xs = all_from_times (λ k. k < n) (missing n xs) (λ k l. let m = times_missing k n xs in grind (arith, nat_tests))

-- a selection has no more positions than there are trips, and leaves no more out
pub few_positions : {V : Type 0} (N : Net V) (ds : List (List ℕ)) → Selection N ds → (length (positions ds) ≤ N.trips) × (length (missing N.trips (positions ds)) ≤ N.trips)
few_positions N ds s =
    let e = alike_length (positions ds ++ missing N.trips (positions ds)) (upto N.trips) (with_missing N.trips (positions ds) s.within s.once) in
    let f = length-append (positions ds) (missing N.trips (positions ds)) in
    let g = length_upto N.trips in
    (omega arith, omega arith)

-- each duty has a position
pub few_duties : {V : Type 0} (N : Net V) (ds : List (List ℕ)) → All (IsDuty N) ds → length ds ≤ length (positions ds)
few_duties N [] l = omega arith
few_duties N ([] ∷ ds) l = absurd l.0
few_duties N ((i ∷ js) ∷ ds) l = let ih = few_duties N ds l.1 in let e = length-append js (positions ds) in omega arith
