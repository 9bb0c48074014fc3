use Rattle.std.proofs.Common.{◌≡◌, ◌++◌, length, drop, option_map}
use Rattle.sheet.specs.Rows.{all_given}
use Rattle.sheet.proofs.row.Row.numbers.Given as goal

abbrev pub invariant-loop-field : goal.invariant-loop-field
invariant-loop-field l = record {
  count : length l.numbers.items ≡ l.field-index;
  same : option_map (λ ns. l.numbers.items ++ ns) (all_given (drop l.field-index l.field-items)) ≡ all_given l.field-items;
}
