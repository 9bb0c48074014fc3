use Rattle.std.proofs.Common.{◌≡◌, length}
use Rattle.tokens.specs.declared.reader.Stage.TheVariants.{Between}
use Rattle.tokens.specs.Tokens.{left}
use Rattle.tokens.proofs.reader.Reader.next_line.Given as goal

abbrev pub invariant-loop-rest : goal.invariant-loop-rest
invariant-loop-rest l = record { between : l.self.stage ≡ Between; same : left l.self ≡ left l.initial.self }

abbrev pub decreases-loop-rest : goal.decreases-loop-rest
decreases-loop-rest l = length l.self.rest.now
