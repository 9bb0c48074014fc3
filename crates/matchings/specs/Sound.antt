-- What holds of the links and the prices at all times, and of the tables within a growth. Assumes nothing.
use Rattle.std.specs.Prelude.{◌≡◌, ℕ, ◌+◌, ◌<◌, ◌⊎◌, List, length, ℤ, pos, ◌+ℤ◌, ◌-ℤ◌, ◌≤ℤ◌, Some, ◌≢◌}
use Rattle.duties.specs.Duties.{Net}
use Rattle.matchings.specs.Tables.{at, at_z, Reached, free}

-- ---- at all times

-- `next` and `prior` say the same links, from both sides.
pub record Matching (n : ℕ) (next prior : List ℕ) : Type 0 where
  pub next_long : length next ≡ n
  pub prior_long : length prior ≡ n
  pub out : (i : ℕ) → i < n → (at next i ≢ 65535) → (at next i < n) × (at prior (at next i) ≡ i)
  pub back : (j : ℕ) → j < n → (at prior j ≢ 65535) → (at prior j < n) × (at next (at prior j) ≡ j)

-- No link costs less than its two prices, no homecoming less than the price of leaving, and no opening, with the hull price, less than the price of coming.
pub record Feasible (net : Net ℤ) (n : ℕ) (a b : List ℤ) (h : ℤ) : Type 0 where
  pub pair : (i j : ℕ) (v : ℤ) → i < n → j < n → net.link i j ≡ Some v → (at_z b i +ℤ at_z a j) ≤ℤ v
  pub tail : (i : ℕ) → i < n → at_z b i ≤ℤ net.homes i
  pub head : (j : ℕ) → j < n → at_z a j ≤ℤ (net.opens j +ℤ h)

-- Where trips are linked, the link is allowed and costs its two prices exactly; a tail without a head has the price of its homecoming, and a head without a tail that of its opening with the hull price.
pub record Tight (net : Net ℤ) (n : ℕ) (next prior : List ℕ) (a b : List ℤ) (h : ℤ) : Type 0 where
  pub pair : (i : ℕ) → i < n → (at next i ≢ 65535) → net.link i (at next i) ≡ Some (at_z b i +ℤ at_z a (at next i))
  pub tail : (i : ℕ) → i < n → at next i ≡ 65535 → at_z b i ≡ net.homes i
  pub head : (j : ℕ) → j < n → at prior j ≡ 65535 → at_z a j ≡ (net.opens j +ℤ h)

-- The links, and prices that bear them out.
pub record Sound (net : Net ℤ) (n : ℕ) (next prior : List ℕ) (a b : List ℤ) (h : ℤ) : Type 0 where
  pub matching : Matching n next prior
  pub feasible : Feasible net n a b h
  pub tight : Tight net n next prior a b h

-- ---- within a growth

-- Of a tail that is not reached, the slack is the least by which a link to a head of R costs more than its two prices, and `via` is a head of R that has it; there is none where no such link is.
pub record Slacks (net : Net ℤ) (n : ℕ) (R : ℕ → Type 0) (reached via : List ℕ) (a b slack : List ℤ) : Type 0 where
  pub low : (i j : ℕ) (v : ℤ) → i < n → j < n → at reached i ≡ 65535 → R j → net.link i j ≡ Some v → (at via i ≢ 65535) × (at_z slack i ≤ℤ ((v -ℤ at_z b i) -ℤ at_z a j))
  pub hit : (i : ℕ) → i < n → at reached i ≡ 65535 → (at via i ≢ 65535) → (at via i < n) × R (at via i) × (net.link i (at via i) ≡ Some (at_z slack i +ℤ (at_z b i +ℤ at_z a (at via i))))

-- The reached tails are numbered below t, in the order in which they were reached: each is reached by a link that costs its two prices exactly, to a head that has no tail, or a tail with a lower number.
pub record Tree (net : Net ℤ) (n : ℕ) (prior reached via : List ℕ) (a b : List ℤ) (t : ℕ) : Type 0 where
  pub number : (i : ℕ) → i < n → (at reached i ≢ 65535) → at reached i < t
  pub source : (i : ℕ) → i < n → (at reached i ≢ 65535) → (at via i < n) × (net.link i (at via i) ≡ Some (at_z b i +ℤ at_z a (at via i)))
  pub before : (i : ℕ) → i < n → (at reached i ≢ 65535) → (at prior (at via i) ≡ 65535) ⊎ (at reached (at prior (at via i)) < at reached i)

-- Each reached tail has a head.
pub record Taken (n : ℕ) (next reached : List ℕ) : Type 0 where
  pub matched : (i : ℕ) → i < n → (at reached i ≢ 65535) → at next i ≢ 65535

-- Within a growth, where t tails are reached.
pub record Searching (net : Net ℤ) (n : ℕ) (next prior reached via : List ℕ) (a b slack : List ℤ) (t : ℕ) : Type 0 where
  pub reached_long : length reached ≡ n
  pub via_long : length via ≡ n
  pub slacks : Slacks net n (Reached prior reached) reached via a b slack
  pub tree : Tree net n prior reached via a b t
  pub taken : Taken n next reached
  pub count : free reached + t ≡ n

-- A dead end: no tail that is not reached has a link to a reached head, and each reached tail has a head.
pub record Closed (net : Net ℤ) (n : ℕ) (next prior reached : List ℕ) : Type 0 where
  pub none : (i j : ℕ) (v : ℤ) → i < n → j < n → at reached i ≡ 65535 → Reached prior reached j → net.link i j ≢ Some v
  pub taken : Taken n next reached

-- After the raise by the slack of the tail i, which is the least, so that its link costs its two prices exactly.
pub record Raised (net : Net ℤ) (n : ℕ) (next prior reached via : List ℕ) (a b slack : List ℤ) (h : ℤ) (t i : ℕ) : Type 0 where
  pub sound : Sound net n next prior a b h
  pub slacks : Slacks net n (Reached prior reached) reached via a b slack
  pub tree : Tree net n prior reached via a b t
  pub zero : at_z slack i ≡ pos 0
