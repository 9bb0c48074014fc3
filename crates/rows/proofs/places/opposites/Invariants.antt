use Rattle.std.proofs.Common.{◌≡◌, ◌++◌, take, drop}
use Rattle.rows.specs.Places.{opposite}
use Rattle.rows.proofs.places.opposites.Given as goal

abbrev pub invariant-loop-x : goal.invariant-loop-x
invariant-loop-x g l = l.x-items ≡ opposite (take l.x-index l.fn.xs) ++ drop l.x-index l.fn.xs
