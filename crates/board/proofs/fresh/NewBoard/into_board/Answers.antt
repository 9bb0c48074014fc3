use Rattle.std.proofs.lemmas.List.{nil_from_length}
use Rattle.board.proofs.fresh.NewBoard.into_board.Goals as goal

-- src/fresh/begin.rt
pub returns : goal.returns
returns c = record { trips = nil_from_length _ c.args.self.empty; limit = c.args.self.unlimited }
