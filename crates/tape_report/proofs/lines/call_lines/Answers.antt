use Rattle.std.proofs.Common.{◌≡◌, length, string_bytes, refl, rules}
use Rattle.tape_report.proofs.Hearing.{all_added, lines_heard, right_with}
use Rattle.tape_report.proofs.lines.call_lines.Goals as goal

pub returns : goal.returns
returns g c =
    let ran = c.run_calls.ensures.ran in
    let row = g.T.Value.Rowed.row in
    let numbers_long : length c.as_mut_slice-3.result.now ≡ 804 = search rules in
    let values_long : length c.as_mut_slice-4.result.now ≡ 804 = search rules in
    lines_heard string_bytes row _ _ c.new-2.result c.run_calls.new.listener.text ran.tells.heard c.new-2.ensures.bytes (all_added row _ ran.tells.heard _ ran.tells.chain) (record {
      successors = c.as_mut_slice.result.now;
      prices = c.as_mut_slice-2.result.now;
      successors_long = search rules;
      prices_long = search rules;
      heard = ran.tells.heard;
      all_right = right_with row _ _ _ _ _ _ _ _ numbers_long values_long ran.tells.all_right;
      text_is = refl;
    })
