-- The tables of the search and what one pass over them does. Every trip is a tail, which one trip may follow, and a head, which may follow one trip. Tables are read by the position of a trip:
-- `next` the head of each tail, `prior` the tail of each head, `reached` the number of each tail in the order in which tails were reached, `via` the head by which a tail is reached best; 65,535 is none.
-- In prices, a j is the price of coming to trip j, b i that of leaving trip i, and h the hull price. The slack of a tail is the least by which a link to a reached head costs more than its two prices. Assumes nothing.
use Rattle.std.specs.Prelude.{◌≡◌, ℕ, ◌<◌, ◌≤◌, cond, ◌⊎◌, List, length, ℤ, pos, ◌+ℤ◌, ◌-ℤ◌, ◌≤ℤ◌, Some, None, sum_by, Option, ◌==◌, ◌≢◌, slice_index, slice_index_or}
use Rattle.duties.specs.Duties.{Net}

-- ---- entries

-- an entry of a table of positions
abbrev pub at : List ℕ → ℕ → ℕ
at xs i = slice_index xs i

-- an entry of a table of whole numbers
abbrev pub at_z : List ℤ → ℕ → ℤ
at_z xs i = slice_index_or xs i (pos 0)

-- one for an entry that is none
abbrev pub lone : ℕ → ℕ
lone x = cond (x == 65535) 1 0

-- How many entries are none. Of `prior` these are the heads without a tail, with each of which a duty begins.
unfoldable pub free : List ℕ → ℕ
free xs = sum_by lone xs

-- Each entry is none or below n.
pub record Names (n : ℕ) (xs : List ℕ) : Type 0 where
  pub below : (i : ℕ) → i < length xs → (at xs i ≢ 65535) → at xs i < n

-- A head is reached if it has no tail, or if its tail is reached.
abbrev pub Reached : List ℕ → List ℕ → ℕ → Type 0
Reached prior reached j = (at prior j ≡ 65535) ⊎ (at reached (at prior j) ≢ 65535)

-- The head j has no tail, and is below k.
pub record FreeBelow (prior : List ℕ) (k j : ℕ) : Type 0 where
  pub below : j < k
  pub none : at prior j ≡ 65535

-- ---- a scan of the links to one head

-- What a scan of the head j leaves of a tail with a link to j that costs v: the slack s with the head f by which it came, as before, or what the link costs more than the prices b and a, by j.
pub record Scanned (v b a : ℤ) (j : ℕ) (s t : ℤ) (f g : ℕ) : Type 0 where
  pub some : g ≡ 65535 → ⊥
  pub least : t ≤ℤ ((v -ℤ b) -ℤ a)
  pub which : ((t ≡ s) × (g ≡ f) × (f ≢ 65535)) ⊎ ((t ≡ ((v -ℤ b) -ℤ a)) × (g ≡ j) × ((f ≡ 65535) ⊎ (t ≤ℤ s)))

-- What it leaves of any tail, whose number is o, and whose link to j is e.
pub record ScanAt (e : Option ℤ) (b a : ℤ) (j o : ℕ) (s t : ℤ) (f g : ℕ) : Type 0 where
  pub seen : (v : ℤ) → o ≡ 65535 → e ≡ Some v → Scanned v b a j s t f g
  pub kept : ((o ≢ 65535) ⊎ (e ≡ None)) → (t ≡ s) × (g ≡ f)

-- The same of every tail below k; the others are as they were.
pub record Scan (net : Net ℤ) (j : ℕ) (a : ℤ) (b : List ℤ) (reached : List ℕ) (k : ℕ) (s t : List ℤ) (f g : List ℕ) : Type 0 where
  pub done : (i : ℕ) → i < k → ScanAt (net.link i j) (at_z b i) a j (at reached i) (at_z s i) (at_z t i) (at f i) (at g i)
  pub rest : (i : ℕ) → k ≤ i → (at_z t i ≡ at_z s i) × (at g i ≡ at f i)

-- ---- the least slack

-- Among the tails below k that are not reached and have a link to a reached head: one of least slack, or none where there is no such tail.
abbrev pub Least : List ℕ → List ℤ → List ℕ → ℕ → Option ℕ → Type 0
Least reached slack via k None = (i : ℕ) → i < k → at reached i ≡ 65535 → at via i ≡ 65535
Least reached slack via k (Some m) =
    (m < k) × (at reached m ≡ 65535) × (at via m ≢ 65535)
    × ((i : ℕ) → i < k → at reached i ≡ 65535 → (at via i ≢ 65535) → at_z slack m ≤ℤ at_z slack i)

-- ---- a raise by d

-- The prices of coming to the reached heads below k are d more, and all others as they were.
pub record RaiseHeads (prior reached : List ℕ) (d : ℤ) (k : ℕ) (a a' : List ℤ) : Type 0 where
  pub moved : (j : ℕ) → j < k → Reached prior reached j → at_z a' j ≡ (at_z a j +ℤ d)
  pub others : (j : ℕ) → j < k → (Reached prior reached j → ⊥) → at_z a' j ≡ at_z a j
  pub rest : (j : ℕ) → k ≤ j → at_z a' j ≡ at_z a j

-- The prices of leaving the reached tails below k are d less, and so are the slacks of the others that have one.
pub record RaiseTails (reached via : List ℕ) (d : ℤ) (k : ℕ) (b b' s s' : List ℤ) : Type 0 where
  pub moved : (i : ℕ) → i < k → (at reached i ≢ 65535) → (at_z b' i ≡ (at_z b i -ℤ d)) × (at_z s' i ≡ at_z s i)
  pub others : (i : ℕ) → i < k → at reached i ≡ 65535 → at_z b' i ≡ at_z b i
  pub slack : (i : ℕ) → i < k → at reached i ≡ 65535 → (at via i ≢ 65535) → at_z s' i ≡ (at_z s i -ℤ d)
  pub stale : (i : ℕ) → i < k → at reached i ≡ 65535 → at via i ≡ 65535 → at_z s' i ≡ at_z s i
  pub rest : (i : ℕ) → k ≤ i → (at_z b' i ≡ at_z b i) × (at_z s' i ≡ at_z s i)
