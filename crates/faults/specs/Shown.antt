-- What a fault is, and what it shows. Assumes nothing.
use Rattle.std.specs.Prelude.{ℕ, List, [], ◌∷◌, ◌++◌, codes, decimal}
use Rattle.faults.specs.declared.fault.Fault.{Fault}
use Rattle.faults.specs.declared.layer.Layer.{Layer}
use Rattle.faults.specs.declared.refusal.Refusal.{Refusal}
use Rattle.faults.specs.Numbers.{number_of}
use Rattle.faults.specs.Words.{word_of}

-- the fault of a layer, with a refusal and a place
abbrev pub fault_at : Layer → Refusal → ℕ → Fault
fault_at layer refusal place = record { refusal = refusal; layer = layer; place = place }

-- as "refused 18 board 5": the refusal's number, the layer's word and the place
abbrev pub fault_text : Fault → List ℕ
fault_text f = codes "refused " ++ (decimal (number_of f.refusal) ++ (codes " " ++ (word_of f.layer ++ (codes " " ++ decimal f.place))))

-- the line that is printed of a fault
abbrev pub fault_line : Fault → List ℕ
fault_line f = fault_text f ++ 10 ∷ []
