use Rattle.std.proofs.Common.{eqb, rules}
use borrow.Author.Tests.{tests}
use Rattle.std.proofs.lemmas.Iterator.{YieldsList-from_slice}
use Rattle.std.proofs.lemmas.Iterator.Search.{position_from_yields_List}
use Rattle.board.proofs.Places.{found}
use Rattle.board.proofs.board.places.find.Goals as goal

pub returns : goal.returns
returns c =
    let n = c.args.number in
    found c.args.trips.now n c.position.result
    (position_from_yields_List (λ t. eqb t.number n) _ _ c.position.result c.position.ensures.ran (YieldsList-from_slice c.args.trips.now cc) (λ x b q k. search (rules, tests)))
