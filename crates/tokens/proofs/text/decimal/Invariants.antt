use Rattle.std.proofs.Common.{◌≡◌, ◌^◌, ◌<◌, drop}
use Rattle.tokens.specs.Text.{all_digits, decimal_after}
use Rattle.tokens.proofs.text.decimal.Given as goal

abbrev pub invariant-loop-digit : goal.invariant-loop-digit
invariant-loop-digit l =
    (l.sum < 10 ^ l.digit-index) × (all_digits (drop l.digit-index l.text) ≡ all_digits l.text) × (decimal_after l.sum (drop l.digit-index l.text) ≡ decimal_after 0 l.text)
