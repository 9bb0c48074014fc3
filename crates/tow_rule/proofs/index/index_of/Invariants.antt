use Rattle.tow_rule.proofs.Entering.{Sofar}
use Rattle.tow_rule.proofs.index.index_of.Given as goal

abbrev pub invariant-loop-place : goal.invariant-loop-place
invariant-loop-place l = Sofar l.links l.place l.index
