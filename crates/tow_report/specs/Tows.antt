-- What the program tow prints. Assumes nothing.
use Rattle.std.specs.Prelude.{◌≡◌, ℕ, ◌+◌, ◌⊎◌, List, [], ◌∷◌, pos, Some}
use Rattle.faults.specs.declared.fault.Fault.{Fault}
use Rattle.faults.specs.Shown.{fault_line}
use Rattle.rules.specs.Caps.{capped_link}
use Rattle.rules.specs.declared.rule.YardCents.{YardCents}
use Rattle.rows.specs.declared.row.Row.{Row}
use Rattle.tariffs.specs.Charges.{capped}
use Rattle.tow_sheets.specs.declared.links.Link.{Link}
use Rattle.tow_sheets.specs.declared.charges.Charges.{Charges}
use Rattle.tow_rule.specs.Listed.{listed_link}
use Rattle.tow_inputs.specs.Rules.{Sound, FirstFault}
use Rattle.plans.specs.Terms.{Terms}
use Rattle.tape_report.specs.Prints.{TapePrints}

-- Terms by which every trip is served, at these yard legs; a link is one that is listed with a fitting gap, and whose gap is at most the cap; rows are cents.
abbrev pub terms_of : YardCents → List Link → ℕ → ℕ → Terms
terms_of yard links cap fee =
    record {
      yard = λ t. Some yard;
      link = λ a b. capped_link cap a b (listed_link links a b);
      places = 1;
      opens = λ f cents. pos (capped f + capped cents) ∷ [];
      links = λ cents. pos (capped cents) ∷ [];
      homes = λ cents. pos (capped cents) ∷ [];
      fee = fee;
    }

-- The terms of the tow office, by its charges and its links: the yard legs at the two sums of the charges sheet, the crew's 480 minutes, and the fee of the charges sheet.
abbrev pub tow_terms : Charges → List Link → Terms
tow_terms charges links = terms_of (record { out = charges.out; home = charges.home }) links 480 charges.fee

-- where neither sheet has a fault: what is printed of the tape, by what they say
pub record TapeLines (charges links tape text : List ℕ) : Type 0 where
  pub sums : Charges
  pub records : List Link
  pub sound : Sound charges links 2000 sums records
  pub prints : TapePrints {V = Row 1} (λ r. r.places) (tow_terms sums records) tape text

-- The text printed for the bytes of the charges sheet, the links sheet and the tape: the line of the first fault of the two sheets, or what is printed of the tape.
abbrev pub TowPrints : List ℕ → List ℕ → List ℕ → List ℕ → Type 0
TowPrints charges links tape text = ((fault : Fault) × FirstFault charges links 2000 fault × (text ≡ fault_line fault)) ⊎ TapeLines charges links tape text
