-- That the calls so far and those of the commands still to come are all the calls of a tape, turn by turn. Assumes nothing.
use Rattle.std.proofs.Common.{◌≡◌, ℕ, ◌<◌, ◌≤◌, min, List, [], ◌∷◌, ◌++◌, map, length, Some, None, Ok, Err, Option, sym, refl, ap, ◌∙◌, subst, ⊎_elim, append_assoc, append-nil, arith, length-append}
use Rattle.std.proofs.lemmas.List.{length-map}
use Rattle.faults.specs.declared.fault.Fault.{Fault}
use Rattle.tape.specs.declared.command.Command.{Command}
use Rattle.tape.specs.Written.{operands_of, written_all}
use Rattle.tape.specs.Reading.{Item}
use Rattle.tape.specs.Readers.{Stops}
use Rattle.tape.specs.Holds.{Holds, Reads, handed, Gives}
use Rattle.calls.specs.declared.call.Call.{Call}
use Rattle.tape_calls.specs.Calls.{call_of, HoldsCalls}

-- calls have been made of the first commands of a tape, what is left is handed on of the others, and all of them have room
pub record Turn (tape : List ℕ) (calls : List Call) (left : List Item) (cap : ℕ) : Type 0 where
  pub commands : List Command
  pub fault : Option Fault
  pub reads : Reads tape commands fault
  pub rest : List Command
  pub left_is : left ≡ handed rest fault
  pub calls_are : calls ++ map call_of rest ≡ map call_of commands
  pub room : length commands ≤ cap

-- a command has at least one byte
byte_each : (cs : List Command) → length cs ≤ length (written_all cs)
byte_each [] = omega arith
byte_each (c ∷ cs) =
    let more = byte_each cs in
    let both = length-append (operands_of c) (written_all cs) in
    omega arith

-- a tape holds no more commands than it has bytes, and at most 60,000
few_commands : (tape : List ℕ) (cs : List Command) (fault : Option Fault) → Holds tape cs fault → length cs ≤ min (length tape) 60000
few_commands tape cs fault h =
    ⊎_elim
    (λ x.
    let each = byte_each cs in
    let parts = ap length x.1.parts ∙ length-append (written_all cs) x.1.rest in
    let most = x.0 in
    omega arith)
    (λ x. let none = ap length x.1 in omega arith)
    h

pub begun : (tape : List ℕ) (calls : List Call) (left : List Item) (cap : ℕ) → Gives tape left → calls ≡ [] → min (length tape) 60000 ≤ cap → Turn tape calls left cap
begun tape calls left cap g none enough =
    let few = few_commands tape g.commands g.fault g.reads.holds in
    record {
      commands = g.commands;
      fault = g.fault;
      reads = g.reads;
      rest = g.commands;
      left_is = g.are;
      calls_are = ap (λ l. l ++ map call_of g.commands) none;
      room = omega arith;
    }

-- where a command comes, it is the first of the others
pub record Comes (c : Command) (fault : Option Fault) (later : List Item) (rest : List Command) : Type 0 where
  pub more : List Command
  pub rest_is : rest ≡ c ∷ more
  pub later_is : later ≡ handed more fault

comes : (c : Command) (fault : Option Fault) (later : List Item) (rest : List Command) → Ok c ∷ later ≡ handed rest fault → Comes c fault later rest
comes c None later [] e = let z : ◌≡◌ {A = ℕ} 0 1 = cc in absurd (omega arith)
comes c (Some f) later [] e = let z : ◌≡◌ {A = ℕ} 0 1 = cc in absurd (omega arith)
comes c fault later (d ∷ more) e = record { more = more; rest_is = cc; later_is = cc }

-- where nothing comes, all has come
all_come : (rest : List Command) (fault other : Option Fault) → handed [] other ≡ handed rest fault → (rest ≡ []) × (fault ≡ other)
all_come [] None None e = (refl, refl)
all_come [] None (Some f) e = let z : ◌≡◌ {A = ℕ} 0 1 = cc in absurd (omega arith)
all_come [] (Some f) None e = let z : ◌≡◌ {A = ℕ} 0 1 = cc in absurd (omega arith)
all_come [] (Some f) (Some g) e = (refl, cc)
all_come (c ∷ cs) fault None e = let z : ◌≡◌ {A = ℕ} 0 1 = cc in absurd (omega arith)
all_come (c ∷ cs) fault (Some f) e = let z : ◌≡◌ {A = ℕ} 0 1 = cc in absurd (omega arith)

module _ (tape : List ℕ) (calls : List Call) (left : List Item) (cap : ℕ) (t : Turn tape calls left cap) where
  module _ (item : Item) (c : Command) (later : List Item) (is : item ≡ Ok c) (e : left ≡ item ∷ later) where
    first : Comes c t.fault later t.rest
    first = comes c t.fault later t.rest (ap (λ i. i ∷ later) (sym is) ∙ sym e ∙ t.left_is)

    -- the call of the command that comes has room
    pub has_room : length calls < cap
    has_room =
        let f = first in
        let all = ap length t.calls_are in
        let parts = length-append calls (map call_of t.rest) in
        let many = length-map t.commands call_of in
        let some = length-map t.rest call_of in
        let one = ap length f.rest_is in
        let most = t.room in
        omega arith

    pub goes_on : (new : List Call) (cap' : ℕ) → new ≡ calls ++ call_of c ∷ [] → cap' ≡ cap → Turn tape new later cap'
    goes_on new cap' pushed same =
        let f = first in
        let most = t.room in
        record {
          commands = t.commands;
          fault = t.fault;
          reads = t.reads;
          rest = f.more;
          left_is = f.later_is;
          calls_are =
              ap (λ l. l ++ map call_of f.more) pushed
              ∙ append_assoc calls (call_of c ∷ []) (map call_of f.more)
              ∙ ap (λ l. calls ++ map call_of l) (sym f.rest_is)
              ∙ t.calls_are;
          room = omega arith;
        }

  -- at the end of the tape, with its fault if there is one
  pub over : (fault : Option Fault) → left ≡ handed [] fault → HoldsCalls tape calls fault
  over fault e =
      let all = all_come t.rest t.fault fault (sym e ∙ t.left_is) in
      let same : t.fault ≡ fault = all.1 in
      record {
        commands = t.commands;
        reads = rw same at t.reads;
        calls_are = sym (append-nil calls) ∙ ap (λ l. calls ++ map call_of l) (sym all.0) ∙ t.calls_are;
      }

  -- at a fault
  pub fails : (item : Item) (f : Fault) (later : List Item) → item ≡ Err f → (left ≡ item ∷ later) × Stops item later → HoldsCalls tape calls (Some f)
  fails item f later is e =
      let stops : later ≡ [] = subst (λ i. Stops i later) is e.1 in
      over (Some f) (e.0 ∙ ap (λ i. i ∷ later) is ∙ ap (λ l. Err f ∷ l) stops)
