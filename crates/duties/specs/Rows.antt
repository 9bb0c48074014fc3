-- Costs in exact rows: summed place by place, with no bound. Assumes nothing.
use Rattle.std.specs.Prelude.{ℕ, List, [], replicate, ℤ, pos, slice_index_or}
use Rattle.rows.specs.Places.{added, opposite}
use Rattle.duties.specs.Duties.{Net, Sums, cost, sum_over}

-- the row of c zeros
abbrev pub zeros : ℕ → List ℤ
zeros c = replicate c (pos 0)

-- the difference of two rows
abbrev pub less : List ℤ → List ℤ → List ℤ
less xs ys = added xs (opposite ys)

-- rows of c places are summed place by place
abbrev pub row_sums : ℕ → Sums (List ℤ)
row_sums c = record { none = zeros c; plus = added }

-- what duties cost together, in rows of c places
abbrev pub cost_row : ℕ → Net (List ℤ) → List (List ℕ) → List ℤ
cost_row c day ds = cost (row_sums c) day ds

-- the prices of some trips together; each price stands at its trip's position
abbrev pub prices_of : ℕ → List (List ℤ) → List ℕ → List ℤ
prices_of c prices ks = sum_over (row_sums c) (λ k. slice_index_or prices k []) ks
