-- What a sheet says of the records and the fault that were taken of it. Assumes nothing.
use Rattle.std.proofs.Common.{◌≡◌, ℕ, ◌≤◌, min, List, [], length, take, drop, Option, refl, sym, ap, ◌∙◌, subst, arith}
use Rattle.std.proofs.lemmas.List.{length-take-le}
use Rattle.faults.specs.declared.fault.Fault.{Fault}
use Rattle.sheet.specs.Rules.{Rules}
use Rattle.sheet.specs.Reading.{read_sheet}
use Rattle.sheet.specs.Says.{Reads, Fills}
use Rattle.sheet.specs.Spaces.{Space, with_all}
use Rattle.sheet.proofs.Only.{reads}

module _ {R : Type 0} (rules : Rules R) (room : ℕ) (sheet : List ℕ) where
  -- the records and the fault that were read are those that the sheet says
  pub taken : (rs : List R) (fault : Option Fault) → rs ≡ (read_sheet rules room sheet).0 → fault ≡ (read_sheet rules room sheet).1 → Reads rules room sheet rs fault
  taken rs fault are is = rw (are, is) (reads rules room sheet _ _ refl)

  module _ (before table : List R) (count name lent : ℕ) where
    abbrev front : Space R
    front = record { kept = take count table; rest = drop count table; room = length table; lent = lent }

    abbrev begun : Space R
    begun = record { kept = []; rest = before; room = length before; lent = name }

    -- a table whose front was filled so: what is seen of it afterwards is the same table
    pub filled : (after : List R) (fault : Option Fault) → front ≡ with_all begun (read_sheet rules room sheet).0 → fault ≡ (read_sheet rules room sheet).1 → room ≡ min rules.most (length before) → count ≤ length table → (name ≡ lent → after ≡ table) → Fills rules sheet before count fault after
    filled after fault is said most within back =
        let kept = ap (λ (v : Space R). v.kept) is in
        let rest = ap (λ (v : Space R). v.rest) is in
        let long = ap (λ (v : Space R). v.room) is in
        let many : length (read_sheet rules room sheet).0 ≡ count = ap length (sym kept) ∙ length-take-le count table within in
        rw (back (sym (ap (λ (v : Space R). v.lent) is))) (record {
          reads = subst (λ n. Reads rules n sheet (take count table) fault) most (taken (take count table) fault kept said);
          within = omega arith;
          long = long;
          rest = rest ∙ ap (λ n. drop n before) many;
        })
