-- That what is handed on of bytes is what they hold. Assumes nothing.
use Rattle.std.proofs.Common.{◌≡◌, ℕ, zero, suc, ◌+◌, ◌<◌, ◌≤◌, List, [], ◌∷◌, ◌++◌, length, get_or, take, drop, Some, None, Ok, Option, sym, refl, ap, ◌∙◌, subst, ⊎_elim, append_assoc, arith, length-append, length-drop, length-take}
use Rattle.std.proofs.lemmas.List.{get_or-take, get_or-drop, get_or_past, take-append-drop, length-take-le}
use Rattle.std.proofs.lemmas.Bool.{cases_lt}
use Rattle.faults.specs.declared.refusal.Refusal.TheVariants.{UnknownLetter, OperandsCutShort}
use Rattle.faults.specs.declared.fault.Fault.{Fault}
use Rattle.tape.specs.declared.kind.Kind.{Kind}
use Rattle.tape.specs.declared.command.Command.{Command}
use Rattle.tape.specs.Kinds.{form, kind_of}
use Rattle.tape.specs.Written.{kind_is, operands_of, written, written_all, command_of}
use Rattle.tape.specs.Reading.{Item, tape_fault, items}
use Rattle.tape.specs.Holds.{Ends, whole, unknown, short, HoldsFrom, fault_last, handed}
use Rattle.tape.proofs.Forms.{Found, kind_found, operands_width, operands_of_command, kind_of_command}
use Rattle.tape.proofs.Steps.{items_unknown, items_short, items_command}

-- each is a byte
abbrev pub Bytes : List ℕ → Type 0
Bytes bs = (i : ℕ) → get_or bs i 0 < 256

bytes_drop : (n : ℕ) (bs : List ℕ) → Bytes bs → Bytes (drop n bs)
bytes_drop n bs h i = let e = get_or-drop n bs i 0 in let l = h (n + i) in omega arith

bytes_take : (n : ℕ) (bs : List ℕ) → Bytes bs → Bytes (take n bs)
bytes_take n bs h i =
    ⊎_elim
    (λ lt. let e = get_or-take n bs i 0 lt in let l = h i in omega arith)
    (λ ge. let t = length-take n bs in let e = get_or_past (take n bs) i 0 (omega arith) in omega arith)
    (cases_lt i n)

-- what is handed on of bytes from an offset on is what they hold
pub record Given (at : ℕ) (bs : List ℕ) (l : List Item) : Type 0 where
  pub commands : List Command
  pub fault : Option Fault
  pub holds : HoldsFrom at bs commands fault
  pub are : l ≡ handed commands fault

-- one command before what is held
module _ (at b : ℕ) (bs : List ℕ) (byte : Bytes bs) (k : Kind) (letter : b ≡ (form k).letter) (all : (form k).width ≤ length bs) where
  abbrev one : Command
  one = command_of k (take (form k).width bs)

  one_kind : kind_is one ≡ k
  one_kind = kind_of_command k (take (form k).width bs)

  one_written : b ∷ bs ≡ written one ++ drop (form k).width bs
  one_written =
      let ops : operands_of one ≡ take (form k).width bs = operands_of_command (take (form k).width bs) (bytes_take (form k).width bs byte) k (length-take-le (form k).width bs all) in
      ap (λ x. x ∷ bs) (letter ∙ ap (λ j. (form j).letter) (sym one_kind))
      ∙ ap (λ l. (form (kind_is one)).letter ∷ l) (sym (take-append-drop (form k).width bs) ∙ ap (λ l. l ++ drop (form k).width bs) (sym ops))

  one_more : (l : List Item) → Given (at + 1 + (form k).width) (drop (form k).width bs) l → Given at (b ∷ bs) (Ok one ∷ l)
  one_more l g =
      let cs : List Command = g.commands in
      let rest : List ℕ = g.holds.rest in
      let wide : length (operands_of one) ≡ (form k).width = operands_width one ∙ ap (λ j. (form j).width) one_kind in
      let count = length-append (operands_of one) (written_all cs) in
      let off : at + 1 + (form k).width + length (written_all cs) ≡ at + length (written_all (one ∷ cs)) = omega arith in
      record {
        commands = one ∷ cs;
        fault = g.fault;
        holds = record {
          rest = rest;
          parts = one_written ∙ ap (λ x. written one ++ x) g.holds.parts ∙ sym (append_assoc (written one) (written_all cs) rest);
          ends = subst (λ n. Ends n rest g.fault) off g.holds.ends;
        };
        are = ap (λ x. Ok one ∷ x) g.are;
      }

-- nothing but an end
ended : (at : ℕ) (bs : List ℕ) (fault : Option Fault) (l : List Item) → Ends at bs fault → l ≡ fault_last fault → Given at bs l
ended at bs fault l e is =
    let off : at ≡ at + 0 = omega arith in
    record { commands = []; fault = fault; holds = record { rest = bs; parts = refl; ends = subst (λ n. Ends n bs fault) off e }; are = is }

letter_given : (at b : ℕ) (bs : List ℕ) → Bytes bs → ((n : ℕ) → Given (at + 1 + n) (drop n bs) (items 0 (at + 1 + n) (drop n bs))) → (o : Option Kind) → kind_of b ≡ o → Found b o → Given at (b ∷ bs) (items 0 at (b ∷ bs))
letter_given at b bs byte later None e none = ended at (b ∷ bs) (Some (tape_fault UnknownLetter at)) _ (unknown b bs none) (items_unknown at b bs e)
letter_given at b bs byte later (Some k) e letter =
    ⊎_elim
    (λ lt. ended at (b ∷ bs) (Some (tape_fault OperandsCutShort at)) _ (subst (λ x. Ends at (x ∷ bs) (Some (tape_fault OperandsCutShort at))) (sym letter) (short k bs lt)) (items_short at b bs k e lt))
    (λ ge. subst (Given at (b ∷ bs)) (sym (items_command at b bs k e ge)) (one_more at b bs byte k letter ge _ (later (form k).width)))
    (cases_lt (length bs) (form k).width)

pub given : (fuel at : ℕ) (bs : List ℕ) → length bs ≤ fuel → Bytes bs → Given at bs (items 0 at bs)
given fuel at [] few byte = ended at [] None [] whole refl
given zero at (b ∷ bs) few byte = absurd (omega arith)
given (suc fuel) at (b ∷ bs) few byte =
    let rest : Bytes bs = λ i. byte (suc i) in
    letter_given at b bs rest (λ n. let l = length-drop n bs in given fuel (at + 1 + n) (drop n bs) (omega arith) (bytes_drop n bs rest)) (kind_of b) refl (kind_found b)
