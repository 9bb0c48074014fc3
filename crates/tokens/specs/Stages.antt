-- Where a reader stands. Assumes nothing.
use Rattle.std.specs.Prelude.{ℕ, ◌+◌, length}
use Rattle.tokens.specs.declared.reader.Stage.{Stage}
use Rattle.tokens.specs.declared.reader.Stage.TheVariants.{Between, Inside, Ended}

-- how many fields the current line has at most, as far as they are not handed on in full
abbrev pub most_fields : Stage → ℕ
most_fields Between = 0
most_fields (Inside body field) = field + length body.now + 1
most_fields Ended = 0
