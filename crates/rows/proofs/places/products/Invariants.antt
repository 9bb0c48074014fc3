use Rattle.std.proofs.Common.{◌≡◌, ◌++◌, map, ◌*ℤ◌, take, drop}
use Rattle.std.specs.Int.{saturate_to_bits}
use Rattle.rows.proofs.places.products.Given as goal

abbrev pub invariant-loop-x : goal.invariant-loop-x
invariant-loop-x g l = l.x-items ≡ map (λ x. saturate_to_bits 63 (x *ℤ l.by)) (take l.x-index l.fn.xs) ++ drop l.x-index l.fn.xs
