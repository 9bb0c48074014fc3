-- The whole promise: what a run of calls on a new board tells. Assumes nothing.
use Rattle.std.specs.Prelude.{◌≡◌, ℕ, ◌+◌, ◌<◌, List, [], ◌∷◌, length, get_or, take, ℤ, Ok, slice_index_or}
use Rattle.std.specs.List.{FoldsTo}
use Rattle.board.specs.declared.board.Board.{Board}
use Rattle.board.specs.Boards.{trips_of, limit_of}
use Rattle.plans.specs.Terms.{Terms}
use Rattle.calls.specs.declared.call.Call.{Call}
use Rattle.calls.specs.declared.answer.Done.TheVariants.{Altered}
use Rattle.calls.specs.Standing.{standing, limit_after, no_call}
use Rattle.history.specs.History.{ByHistory}
use Rattle.runs.specs.Heard.{Heard}
use Rattle.runs.specs.Right.{Right}

-- what stands before any call: no trips, and what the tables were given with
abbrev pub at_start : {V : Type 0} → List ℕ → List V → Heard V
at_start successors prices = record { answer = Ok Altered; trips = []; successors = successors; prices = prices }

-- Of the first m calls these things are heard, one for each, in order. At each place k it is what is right of call k, where the trips stand and the limit is in force
-- that the calls before it lead to, and the tables hold what was heard before it; and the trips heard are those that stand after it.
pub record RightUpto {V : Type 0} (row : V → List ℤ) (terms : Terms) (numbers values : ℕ) (calls : List Call) (start : Heard V) (m : ℕ) (heard : List (Heard V)) : Type 0 where
  pub one_each : length heard ≡ m
  pub right : (k : ℕ) → k < m
      → Right row terms (standing terms.yard (take k calls)) (limit_after (take k calls)) numbers values (slice_index_or calls k no_call) (slice_index_or (start ∷ heard) k start) (slice_index_or (start ∷ heard) (k + 1) start)
  pub stood : (k : ℕ) → k < m → (get_or heard k start).trips ≡ standing terms.yard (take (k + 1) calls)

-- A listener that was led from s to t has heard of the first m calls just what is right, and the successors and prices that are left are those heard last.
pub record Told {S V : Type 0} (told : S → Heard V → S → Type 0) (row : V → List ℤ) (terms : Terms) (numbers values : ℕ) (calls : List Call) (start : Heard V) (m : ℕ) (s t : S) (successors : List ℕ) (prices : List V) : Type 0 where
  pub heard : List (Heard V)
  pub chain : FoldsTo told s heard t
  pub all_right : RightUpto row terms numbers values calls start m heard
  pub last_successors : successors ≡ (get_or (start ∷ heard) m start).successors
  pub last_prices : prices ≡ (get_or (start ∷ heard) m start).prices

-- A run of all the calls on a new board: what was told, and the board after it. Which trips stand and which limit is in force before each call is said by the calls alone, too.
pub record Ran {S V : Type 0} (told : S → Heard V → S → Type 0) (row : V → List ℤ) (terms : Terms) (numbers values : ℕ) (calls : List Call) (start : Heard V) (s t : S) (successors : List ℕ) (prices : List V) (board : Board) : Type 0 where
  pub tells : Told told row terms numbers values calls start (length calls) s t successors prices
  pub trips_stand : trips_of board ≡ standing terms.yard calls
  pub limit_is : limit_of board ≡ limit_after calls
  pub histories : (k : ℕ) → ByHistory terms.yard (take k calls)
