-- What stands after calls on a new board, and which limit is in force, said by the calls alone. Assumes nothing.
use Rattle.std.specs.Prelude.{◌≡◌, ℕ, ◌<◌, ◌⊎◌, List, length, get_or, take, None, Option, ◌≢◌, slice_index_or}
use Rattle.trips.specs.declared.trip.Trip.{Trip}
use Rattle.rules.specs.declared.rule.YardCents.{YardCents}
use Rattle.board.specs.Refusals.{add_refusal, withdraw_refusal, limit_refusal}
use Rattle.board.specs.Exact.{Among}
use Rattle.board.specs.Standing.{Standing, AllServed}
use Rattle.calls.specs.declared.call.Call.{Call}
use Rattle.calls.specs.declared.call.Call.TheVariants.{Add, Withdraw, SetLimit}
use Rattle.calls.specs.Standing.{standing, limit_after, no_call}

-- of the first m calls, call k added the trip, which was not refused on what stood then, and no later one withdrew its number with success
pub record AddedAt (yard : Trip → Option YardCents) (calls : List Call) (m : ℕ) (t : Trip) (k : ℕ) : Type 0 where
  pub within : k < m
  pub call_is : get_or calls k no_call ≡ Add t
  pub accepted : add_refusal yard (standing yard (take k calls)) t ≡ None
  pub kept : (j : ℕ) → k < j → j < m → slice_index_or calls j no_call ≡ Withdraw t.number → withdraw_refusal (standing yard (take j calls)) t.number ≢ None

-- of the first m calls, call k set the limit n, which was not refused, and no later one set a limit with success
pub record SetAt (calls : List Call) (m n k : ℕ) : Type 0 where
  pub within : k < m
  pub call_is : get_or calls k no_call ≡ SetLimit n
  pub accepted : limit_refusal n ≡ None
  pub last : (j other : ℕ) → k < j → j < m → slice_index_or calls j no_call ≡ SetLimit other → limit_refusal other ≢ None

-- none of the first m calls set a limit with success
abbrev pub NoneSet : List Call → ℕ → Type 0
NoneSet calls m = (j other : ℕ) → j < m → slice_index_or calls j no_call ≡ SetLimit other → limit_refusal other ≢ None

-- the limit n after the first m calls: the last that was set, or 0 where none was
abbrev pub LimitOf : List Call → ℕ → ℕ → Type 0
LimitOf calls m n = ((k : ℕ) × SetAt calls m n k) ⊎ (NoneSet calls m × (n ≡ 0))

-- of all calls on a new board: the trips are in board order, no number twice, each sound, and at most 200; the rule serves each; a trip stands just where a call added it and no later one withdrew it; the limit is the last that was set
pub record ByHistory (yard : Trip → Option YardCents) (calls : List Call) : Type 0 where
  pub stand : Standing (standing yard calls)
  pub served : AllServed yard (standing yard calls)
  pub were_added : (t : Trip) → Among t (standing yard calls) → (k : ℕ) × AddedAt yard calls (length calls) t k
  pub still_stand : (t : Trip) (k : ℕ) → AddedAt yard calls (length calls) t k → Among t (standing yard calls)
  pub limit_is : LimitOf calls (length calls) (limit_after calls)
