-- The kinds of commands. Assumes nothing.
use Rattle.std.specs.Prelude.{ℕ, cond, Some, None, Option, ◌==◌}
use Rattle.tape.specs.declared.kind.Kind.{Kind}
use Rattle.tape.specs.declared.kind.Kind.TheVariants.{Add, Withdraw, Limit, Plan}

-- how a command stands on a tape: a letter, and behind it so many bytes of operands
pub record Form : Type 0 where
  pub letter : ℕ
  pub width : ℕ

-- the form of each kind of command, whose letter is A, W, L or P: 65, 87, 76 and 80 are their codes
abbrev pub form : Kind → Form
form Add = record { letter = 65; width = 8 }
form Withdraw = record { letter = 87; width = 2 }
form Limit = record { letter = 76; width = 1 }
form Plan = record { letter = 80; width = 0 }

-- the kind with this letter
abbrev pub kind_of : ℕ → Option Kind
kind_of b =
    cond (b == (form Add).letter) (Some Add)
    (cond (b == (form Withdraw).letter) (Some Withdraw)
    (cond (b == (form Limit).letter) (Some Limit)
    (cond (b == (form Plan).letter) (Some Plan) None)))
