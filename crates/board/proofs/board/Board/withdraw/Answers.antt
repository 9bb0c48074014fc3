use Rattle.std.proofs.Common.{◌≡◌, ◌<◌, true, length, get_or, is_some, vec_items, sym, ap, ◌∙◌, subst}
use Rattle.trips.specs.Default.{no_trip}
use Rattle.board.specs.Exact.{RidOf, Only}
use Rattle.board.specs.Lists.{without}
use Rattle.board.specs.Refusals.{answer, unless_refused}
use Rattle.board.specs.Standing.{AllServed}
use Rattle.board.proofs.Adds.{Differ}
use Rattle.board.proofs.Exactly.{only_without}
use Rattle.board.proofs.Kept.{removed_without, without_each}
use Rattle.board.proofs.Pairs.{pairs_from}
use Rattle.board.proofs.Places.{stands_at}
use Rattle.board.proofs.Reasons.{leaves}
use Rattle.board.proofs.board.Board.withdraw.Goals as goal

pub returns : goal.returns
returns c =
    let b = c.args.self.now in
    let ts = vec_items b.trips in
    let n = c.args.number in
    let i = c.in-Some.at in
    let found : (i < length ts) × ((get_or ts i no_trip).number ≡ n) = subst (λ l. (i < length l) × ((get_or l i no_trip).number ≡ n)) c.deref.ensures.value c.in-Some.ensures in
    let none = leaves ts n (stands_at ts n i found.0 found.1) in
    let gone = c.take_off.ensures.trips ∙ removed_without ts n i found.0 found.1 (pairs_from Differ ts b.standing.differ) in
    record {
      answer = sym (ap (λ o. answer o n) none);
      trips = gone ∙ sym (ap (λ o. unless_refused o ts (without ts n)) none);
      limit = c.take_off.ensures.limit;
      exact = λ _. subst (Only (RidOf ts n)) (sym gone) (only_without ts n b.standing.ordered);
      served = λ yard all. subst (AllServed yard) (sym gone) (without_each ts n (λ t. is_some (yard t) ≡ true) all);
    }
