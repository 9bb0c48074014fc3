use Rattle.std.proofs.Common.{◌+◌, sym, refl, ◌∙◌, ap, arith}
use Rattle.std.proofs.lemmas.Bool.{eqb-false}
use Rattle.std.proofs.lemmas.List.{length-take}
use Rattle.tokens.specs.Tokens.{to_come}
use Rattle.tokens.proofs.Cuts.{rest_is, line_skip, line_found}
use Rattle.tokens.proofs.reader.Reader.next_line.Goals as goal

pub returns-then-not-is_comment : goal.returns-then-not-is_comment
returns-then-not-is_comment c =
    let rest = c.loop-rest.self.rest.now in
    let some = eqb-false _ 0 (sym c.loop-rest-test.ensures) in
    let after = rest_is rest c.bytes_before-end.result _ _ _ refl c.get.ensures.lookup c.unwrap_or-self.ensures in (
      omega (arith, length-take c.bytes_before-end.result rest, c.loop-rest.self.lines_fit, c.bytes_before-end.ensures.bound),
      sym c.loop-rest.invariant.same
          ∙ ap (λ s. to_come s c.loop-rest.self.line rest) c.loop-rest.invariant.between
          ∙ line_found _ rest _ _ _ (omega (arith, some)) c.bytes_before-end.ensures.value refl after (sym (c.if-not-is_comment.ensures)),
    )

pub loop-rest-preserved : goal.loop-rest-preserved
loop-rest-preserved c =
    let rest = c.loop-rest.self.rest.now in
    let some = eqb-false _ 0 (sym c.loop-rest-test.ensures) in
    let after = rest_is rest c.bytes_before-end.result _ _ _ refl c.get.ensures.lookup c.unwrap_or-self.ensures in
    record {
      between = c.loop-rest.invariant.between;
      same = ap (λ s. to_come s (c.loop-rest.self.line + 1) c.unwrap_or-self.result.now) c.loop-rest.invariant.between
          ∙ sym (line_skip _ rest _ _ _ (omega (arith, some)) c.bytes_before-end.ensures.value refl after (sym (c.if-not-is_comment.ensures)))
          ∙ sym (ap (λ s. to_come s c.loop-rest.self.line rest) c.loop-rest.invariant.between)
          ∙ c.loop-rest.invariant.same;
    }
