use Rattle.std.proofs.Common.{sym, arith, rules}
use Rattle.std.proofs.lemmas.List.Sums.{prefix_len_is}
use Rattle.std.proofs.lemmas.List.Sorted.{IsPartitionPoint-from_clause}
use Rattle.trips.specs.Default.{no_trip}
use Rattle.board.specs.Order.{before}
use Rattle.board.proofs.Adds.{parted}
use Rattle.board.proofs.board.places.place.Goals as goal

pub returns : goal.returns
returns c =
    let ts = c.args.trips.now in
    let t = c.args.trip.now in
    let point = IsPartitionPoint-from_clause (λ x. before x t) ts c.partition_point.result c.partition_point.ensures.partitioned (parted ts t c.requires) (λ a r f' k. search rules) in
    sym (prefix_len_is (λ x. before x t) ts c.partition_point.result no_trip c.partition_point.ensures.bound (λ k l. point.0 k no_trip (omega arith) l) (λ l. point.1 _ no_trip (omega arith) l))
