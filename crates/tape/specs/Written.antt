-- Commands as bytes. Assumes nothing.
use Rattle.std.specs.Prelude.{ℕ, ◌+◌, ◌*◌, ◌/◌, ◌%◌, List, [], ◌∷◌, ◌++◌, slice_index}
use Rattle.tape.specs.declared.kind.Kind.{Kind}
use Rattle.tape.specs.declared.kind.Kind.TheVariants.{Add as an_add, Withdraw as a_withdraw, Limit as a_limit, Plan as a_plan}
use Rattle.tape.specs.declared.command.Command.{Command}
use Rattle.tape.specs.declared.command.Command.TheVariants.{Add, Withdraw, Limit, Plan}
use Rattle.tape.specs.Kinds.{form}

-- which kind of command it is
abbrev pub kind_is : Command → Kind
kind_is (Add number start departure end arrival) = an_add
kind_is (Withdraw number) = a_withdraw
kind_is (Limit limit) = a_limit
kind_is Plan = a_plan

-- a number of two bytes before other bytes, the high byte first
abbrev pub word_then : ℕ → List ℕ → List ℕ
word_then n bs = n / 256 ∷ n % 256 ∷ bs

-- the bytes behind the letter
abbrev pub operands_of : Command → List ℕ
operands_of (Add number start departure end arrival) = word_then number (start ∷ word_then departure (end ∷ word_then arrival []))
operands_of (Withdraw number) = word_then number []
operands_of (Limit limit) = limit ∷ []
operands_of Plan = []

-- the bytes of a command
abbrev pub written : Command → List ℕ
written c = (form (kind_is c)).letter ∷ operands_of c

-- the bytes of commands, one after the other
abbrev pub written_all : List Command → List ℕ
written_all [] = []
written_all (c ∷ cs) = written c ++ written_all cs

-- the number in the two bytes at i, the high byte first
abbrev pub word_at : List ℕ → ℕ → ℕ
word_at bs i = slice_index bs i * 256 + slice_index bs (i + 1)

-- the command of a kind with these operands
abbrev pub command_of : Kind → List ℕ → Command
command_of an_add bs = Add (word_at bs 0) (slice_index bs 2) (word_at bs 3) (slice_index bs 5) (word_at bs 6)
command_of a_withdraw bs = Withdraw (word_at bs 0)
command_of a_limit bs = Limit (slice_index bs 0)
command_of a_plan bs = Plan
