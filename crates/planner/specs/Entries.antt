-- Entries of the lent tables of positions, in which 65,535 stands for no trip. Assumes nothing.
use Rattle.std.specs.Prelude.{◌≡◌, ℕ, ◌≢◌, Some, None, Option}

-- the trip that an entry names, if it names one
abbrev pub IsEntry : ℕ → Option ℕ → Type 0
IsEntry entry None = entry ≡ 65535
IsEntry entry (Some trip) = (entry ≢ 65535) × (trip ≡ entry)
