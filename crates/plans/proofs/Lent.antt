-- Tables that stay the same ones stay so.
use Rattle.std.proofs.Common.{◌∙◌}
use Rattle.plans.specs.declared.tables.Tables.{Tables}
use Rattle.plans.specs.Lent.{SameTables}

pub same_since : {V : Type 0} {before middle after : Tables V} → SameTables before middle → SameTables middle after → SameTables before after
same_since s t =
    record {
      successors = t.successors ∙ s.successors;
      prices = t.prices ∙ s.prices;
      numbers = t.numbers ∙ s.numbers;
      values = t.values ∙ s.values;
      successors_long = t.successors_long ∙ s.successors_long;
      prices_long = t.prices_long ∙ s.prices_long;
      numbers_long = t.numbers_long ∙ s.numbers_long;
      values_long = t.values_long ∙ s.values_long;
    }
