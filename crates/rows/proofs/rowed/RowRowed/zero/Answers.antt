use Rattle.std.proofs.Common.{arith}
use borrow.Author.Differences.{ints}
use Rattle.std.proofs.lemmas.List.{length-replicate}
use Rattle.rows.proofs.Bounds.{kept_filled}
use Rattle.rows.proofs.Comparisons.{partly_is, standing_from_cmp, eq_decides}
use Rattle.rows.proofs.rowed.RowRowed.zero.Goals as goal

pub invariant_of-result : goal.invariant_of-result
invariant_of-result g c = record { long = length-replicate g.row.N _; near = kept_filled g.row.N _ (omega (arith, ints), omega (arith, ints)); stands = standing_from_cmp; partly = partly_is; same = eq_decides }
