-- Where a duty goes on. Assumes nothing.
use Rattle.std.specs.Prelude.{ℕ, List, [], Some, None, Option}
use Rattle.duties.specs.Tables.{duty_of}

-- the trips of a duty that goes on at a position, or has gone home
abbrev pub trips_from : List ℕ → Option ℕ → List ℕ
trips_from t None = []
trips_from t (Some at) = duty_of t at
