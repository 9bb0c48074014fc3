-- The tables that plan is lent. Assumes nothing.
use Rattle.std.specs.Prelude.{◌≡◌, length}
use Rattle.plans.specs.declared.tables.Tables.{Tables as Lent}
use Rattle.plans.specs.Answers.{Tables}

-- what they hold
abbrev pub tables_of : {V : Type 0} → Lent V → Tables V
tables_of lent = record { successors = lent.successors.now; prices = lent.prices.now; numbers = lent.numbers.now; values = lent.values.now }

-- They are the very tables that were lent, so that what they hold is what the lender finds in them, and each is as long as it was.
pub record SameTables {V : Type 0} (before after : Lent V) : Type 0 where
  pub successors : after.successors.ghost_name ≡ before.successors.ghost_name
  pub prices : after.prices.ghost_name ≡ before.prices.ghost_name
  pub numbers : after.numbers.ghost_name ≡ before.numbers.ghost_name
  pub values : after.values.ghost_name ≡ before.values.ghost_name
  pub successors_long : length after.successors.now ≡ length before.successors.now
  pub prices_long : length after.prices.now ≡ length before.prices.now
  pub numbers_long : length after.numbers.now ≡ length before.numbers.now
  pub values_long : length after.values.now ≡ length before.values.now
