-- What is still handed on. Assumes nothing.
use Rattle.std.specs.Prelude.{ℕ, List}
use Rattle.duty_list.specs.declared.along.DutyTrips.{DutyTrips}
use Rattle.duty_list.specs.declared.firsts.Duties.{Duties}
use Rattle.duty_list.specs.Along.{trips_from}
use Rattle.duty_list.specs.Firsts.{firsts_between}

-- the first trips of the duties that are still to come
abbrev pub firsts_left : Duties → List ℕ
firsts_left d = firsts_between d.successors.now d.positions.start d.positions.end

-- the trips of a duty that are still to come
abbrev pub trips_left : DutyTrips → List ℕ
trips_left d = trips_from d.successors.now d.at
