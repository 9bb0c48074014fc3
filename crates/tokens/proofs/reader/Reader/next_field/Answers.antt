use Rattle.std.proofs.Common.{◌+◌, ◌∙◌, arith}
use Rattle.std.proofs.lemmas.List.{take_rest}
use Rattle.tokens.proofs.Cuts.{field_more, field_last}
use Rattle.tokens.proofs.reader.Reader.next_field.Goals as goal
use Rattle.tokens.proofs.reader.Reader.next_field.Goals.{in-Some, in-None}

pub returns : goal.returns
returns c =
    let body = c.args.body.now in
    let rest = c.args.self.now.rest.now in
    let end = c.bytes_before-end.result in
    let at = c.bytes_before-end.ensures.value in
    elim c.match-get.branch [
      | in-Some w ↦
          let h = w.in-Some.ensures in
          rw w.self-is (field_more _ _ body rest _ end at c.trim.ensures _ (omega (arith, h.lookup.0.0)) (h.lookup.0.2 ∙ take_rest body (end + 1)))
      | in-None w ↦
          let h = w.in-None.ensures in
          rw w.self-is (field_last _ _ body rest _ end at c.trim.ensures (omega (arith, h.lookup.0)))
    ]
