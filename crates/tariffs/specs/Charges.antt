-- How fees and cents count. Assumes nothing.
use Rattle.std.specs.Prelude.{ℕ, min}

-- a fee or cents above 1,000,000,000 count as that
abbrev pub capped : ℕ → ℕ
capped n = min n 1000000000
