use Rattle.std.proofs.Common.{arith}
use Rattle.tape.proofs.Held.{tape_gives}
use Rattle.tape.proofs.reader.TapeReader.from_offset.Goals as goal

pub returns-clause-format : goal.returns-clause-format
returns-clause-format c = tape_gives c.args.tape.now (λ i. omega (arith, c.type_inv.tape i))
