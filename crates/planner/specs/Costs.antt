-- One place of a cost. Assumes nothing.
use Rattle.std.specs.Prelude.{Bool, false, ℤ, Some, None, Option}
use Rattle.plans.specs.Answers.{past}

-- whether a place, if there is one, is past the most
abbrev pub past_place : Option ℤ → Bool
past_place None = false
past_place (Some x) = past x
