use Rattle.std.proofs.Common.{◌≡◌, ◌++◌, take, drop}
use Rattle.rows.specs.Places.{kept}
use Rattle.rows.proofs.places.bounded.Given as goal

abbrev pub invariant-loop-x : goal.invariant-loop-x
invariant-loop-x g l = l.x-items ≡ kept (take l.x-index l.fn.xs) ++ drop l.x-index l.fn.xs
