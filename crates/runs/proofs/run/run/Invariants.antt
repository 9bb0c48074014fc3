use Rattle.std.proofs.Common.{◌≡◌, length, take}
use Rattle.board.specs.Boards.{limit_of, trips_of}
use Rattle.board.specs.Standing.{AllServed}
use Rattle.calls.specs.Standing.{standing, limit_after}
use Rattle.plans.specs.Lent.{SameTables}
use Rattle.runs.specs.Ran.{at_start, Told}
use Rattle.runs.proofs.run.run.Given as goal

-- what holds before each call
abbrev pub invariant-loop-call : goal.invariant-loop-call
invariant-loop-call g l =
    (trips_of l.board ≡ standing (g.R.Rule.yard l.terms.rule.now) (take l.call-index l.calls))
    × (limit_of l.board ≡ limit_after (take l.call-index l.calls))
    × AllServed (g.R.Rule.yard l.terms.rule.now) (trips_of l.board)
    × SameTables l.initial.tables l.tables
    × Told g.L.Listener.told g.T.Value.Rowed.row
    (record { yard = g.R.Rule.yard l.terms.rule.now; link = g.R.Rule.link l.terms.rule.now; places = g.T.Value.Rowed.count; opens = g.T.Tariff.opens l.terms.tariff.now; links = g.T.Tariff.links l.terms.tariff.now; homes = g.T.Tariff.homes l.terms.tariff.now; fee = l.terms.fee })
    (length l.initial.tables.numbers.now) (length l.initial.tables.values.now) l.calls (at_start l.initial.tables.successors.now l.initial.tables.prices.now) l.call-index l.initial.listener l.listener l.tables.successors.now l.tables.prices.now
