-- Where duties begin, among some positions. Assumes nothing.
use Rattle.std.specs.Prelude.{ℕ, ◌-◌, ◌==◌, List}
use Rattle.std.specs.List.{filter, range_with_len}
use Rattle.duties.specs.Duties.{times}

-- the positions from one on and before another that duties begin with: they stand nowhere in the table
abbrev pub firsts_between : List ℕ → ℕ → ℕ → List ℕ
firsts_between t start end = filter (λ p. times p t == 0) (range_with_len start (end - start))
