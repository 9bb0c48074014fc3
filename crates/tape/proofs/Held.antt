-- That a tape holds one thing only, and that is handed on. Assumes nothing.
use Rattle.std.proofs.Common.{◌≡◌, ℕ, ◌+◌, ◌≤◌, ltb, List, [], ◌∷◌, ◌++◌, map, length, drop, Some, None, Ok, Option, sym, refl, ap, ◌∙◌, subst, inl, inr, ⊎_elim, append_assoc, append-nil, arith, length-append}
use Rattle.std.proofs.lemmas.List.{take_at, drop_at}
use Rattle.std.proofs.lemmas.Bool.{cases_lt, cond-true, cond-false, lt-ltb, le-ltb}
use Rattle.faults.specs.declared.refusal.Refusal.TheVariants.{InputTooLong}
use Rattle.faults.specs.declared.fault.Fault.{Fault}
use Rattle.tape.specs.declared.kind.Kind.{Kind}
use Rattle.tape.specs.declared.command.Command.{Command}
use Rattle.tape.specs.Kinds.{form, kind_of}
use Rattle.tape.specs.Written.{kind_is, operands_of, written, written_all, command_of}
use Rattle.tape.specs.Reading.{tape_fault, items, all_of}
use Rattle.tape.specs.Holds.{Ends, whole, unknown, short, HoldsFrom, Holds, fault_last, handed, Gives}
use Rattle.tape.proofs.Forms.{kind_found, no_kind, kind_of_letter, operands_width, command_of_operands}
use Rattle.tape.proofs.Steps.{to_come_lem, items_unknown, items_short, items_command}
use Rattle.tape.proofs.Given.{Bytes, given}

end_held : (at : ℕ) {rest : List ℕ} {fault : Option Fault} → Ends at rest fault → items 0 at rest ≡ fault_last fault
end_held at whole = refl
end_held at (unknown b bs none) = items_unknown at b bs (no_kind b (kind_of b) (kind_found b) none)
end_held at (short k bs few) = items_short at (form k).letter bs k (kind_of_letter k) few

-- bytes that hold commands and an end are read as those
held : (cs : List Command) (at : ℕ) (rest : List ℕ) (fault : Option Fault) → Ends (at + length (written_all cs)) rest fault → items 0 at (written_all cs ++ rest) ≡ handed cs fault
held [] at rest fault e = let off : at + 0 ≡ at = omega arith in end_held at (subst (λ n. Ends n rest fault) off e)
held (c ∷ cs) at rest fault e =
    let k : Kind = kind_is c in
    let w = operands_width c in
    let more : List ℕ = written_all cs ++ rest in
    let join : written c ++ written_all cs ++ rest ≡ (form k).letter ∷ (operands_of c ++ more) = append_assoc (written c) (written_all cs) rest in
    let la = length-append (operands_of c) more in
    let lb = length-append (operands_of c) (written_all cs) in
    let off : at + length (written_all (c ∷ cs)) ≡ at + 1 + (form k).width + length (written_all cs) = omega arith in
    ap (items 0 at) join
    ∙ items_command at (form k).letter (operands_of c ++ more) k (kind_of_letter k) (omega arith)
    ∙ ap (λ l. Ok (command_of k l) ∷ items 0 (at + 1 + (form k).width) (drop (form k).width (operands_of c ++ more))) (take_at (operands_of c) more (form k).width w)
    ∙ ap (λ d. Ok d ∷ items 0 (at + 1 + (form k).width) (drop (form k).width (operands_of c ++ more))) (command_of_operands c)
    ∙ ap (λ l. Ok c ∷ items 0 (at + 1 + (form k).width) l) (drop_at (operands_of c) more (form k).width w)
    ∙ ap (λ l. Ok c ∷ l) (held cs (at + 1 + (form k).width) rest fault (subst (λ n. Ends n rest fault) off e))

held_from : (at : ℕ) (bs : List ℕ) (cs : List Command) (fault : Option Fault) → HoldsFrom at bs cs fault → items 0 at bs ≡ handed cs fault
held_from at bs cs fault h = ap (items 0 at) h.parts ∙ held cs at h.rest fault h.ends

-- what is handed on tells the commands and the fault apart
handed_same : (cs ds : List Command) (fault other : Option Fault) → handed ds other ≡ handed cs fault → (ds ≡ cs) × (other ≡ fault)
handed_same [] [] None None e = (refl, refl)
handed_same [] [] None (Some f) e = let z : ◌≡◌ {A = ℕ} 0 1 = cc in absurd (omega arith)
handed_same [] [] (Some f) None e = let z : ◌≡◌ {A = ℕ} 0 1 = cc in absurd (omega arith)
handed_same [] [] (Some f) (Some g) e = (refl, cc)
handed_same [] (d ∷ ds) None other e = let z : ◌≡◌ {A = ℕ} 0 1 = cc in absurd (omega arith)
handed_same [] (d ∷ ds) (Some f) other e = let z : ◌≡◌ {A = ℕ} 0 1 = cc in absurd (omega arith)
handed_same (c ∷ cs) [] fault None e = let z : ◌≡◌ {A = ℕ} 0 1 = cc in absurd (omega arith)
handed_same (c ∷ cs) [] fault (Some f) e = let z : ◌≡◌ {A = ℕ} 0 1 = cc in absurd (omega arith)
handed_same (c ∷ cs) (d ∷ ds) fault other e =
    let one : d ≡ c = cc in
    let rest : handed ds other ≡ handed cs fault = cc in
    let r = handed_same cs ds fault other rest in
    let more : ds ≡ cs = r.0 in
    (cc, r.1)

module _ (tape : List ℕ) where
  -- a tape that holds commands and a fault hands them on
  holds_all : (cs : List Command) (fault : Option Fault) → Holds tape cs fault → all_of tape ≡ handed cs fault
  holds_all cs fault h =
      ⊎_elim
      (λ x. cond-false (ltb 60000 (length tape)) _ _ (le-ltb _ _ x.0) ∙ to_come_lem tape 0 ∙ held_from 0 tape cs fault x.1)
      (λ x. cond-true (ltb 60000 (length tape)) _ _ (lt-ltb _ _ x.0) ∙ ap (λ f. handed [] f) (sym x.2) ∙ ap (λ l. handed l fault) (sym x.1))
      h

  -- written commands are handed on as they were
  back : (cs : List Command) → length tape ≤ 60000 → tape ≡ written_all cs → all_of tape ≡ map Ok cs
  back cs most e = holds_all cs None (inl (most, record { rest = []; parts = e ∙ sym (append-nil (written_all cs)); ends = whole })) ∙ append-nil (map Ok cs)

  gives : (cs : List Command) (fault : Option Fault) → Holds tape cs fault → Gives tape (all_of tape)
  gives cs fault h =
      let e = holds_all cs fault h in
      record {
        commands = cs;
        fault = fault;
        reads = record { holds = h; only = λ ds other d. handed_same cs ds fault other (sym (holds_all ds other d) ∙ e) };
        are = e;
        back = back;
      }

  pub tape_gives : Bytes tape → Gives tape (all_of tape)
  tape_gives byte =
      ⊎_elim
      (λ long. gives [] (Some (tape_fault InputTooLong 0)) (inr (long, refl, refl)))
      (λ most. let g = given (length tape) 0 tape (omega arith) byte in gives g.commands g.fault (inl (most, g.holds)))
      (cases_lt 60000 (length tape))
