use Rattle.tokens.proofs.Shaping.{shaped}
use Rattle.tokens.proofs.reader.Reader.after_line.Goals as goal

pub returns-clause-format : goal.returns-clause-format
returns-clause-format c = shaped
