use Rattle.std.proofs.Common.{◌≡◌, ◌++◌, take, drop}
use Rattle.rows.specs.Places.{added}
use Rattle.rows.proofs.places.sums.Given as goal

abbrev pub invariant-loop-i : goal.invariant-loop-i
invariant-loop-i g l = l.x-items ≡ added (take l.i l.fn.xs) l.ys ++ drop l.i l.fn.xs
