-- What is printed of an edges sheet. Assumes nothing.
use Rattle.std.specs.Prelude.{◌≡◌, ℕ, List, [], ◌∷◌, ◌++◌, length, Some, None, codes, decimal, Option}
use Rattle.faults.specs.declared.fault.Fault.{Fault}
use Rattle.faults.specs.Shown.{fault_line}
use Rattle.walks.specs.declared.edge.Edge.{Edge}
use Rattle.walks.specs.Walks.{Least}
use Rattle.sheet.specs.Says.{Reads}
use Rattle.chart.specs.Edges.{edge_rules}
use Rattle.distance_report.specs.Berths.{named_berths}

-- numbers, each after a tab
abbrev pub tabbed : List ℕ → List ℕ
tabbed [] = []
tabbed (b ∷ bs) = codes "\t" ++ (decimal b ++ tabbed bs)

-- a distance, after a tab; a dash where there is none
abbrev pub cell_text : Option ℕ → List ℕ
cell_text None = codes "\t-"
cell_text (Some m) = codes "\t" ++ decimal m

-- the distances d to each of the berths bs
abbrev pub cells_text : (ℕ → Option ℕ) → List ℕ → List ℕ
cells_text d [] = []
cells_text d (b ∷ bs) = cell_text (d b) ++ cells_text d bs

-- the line of the distances from a berth
abbrev pub row_text : (ℕ → ℕ → Option ℕ) → List ℕ → ℕ → List ℕ
row_text d bs from = decimal from ++ (cells_text (d from) bs ++ (10 ∷ []))

-- a line for each of the berths xs
abbrev pub rows_text : (ℕ → ℕ → Option ℕ) → List ℕ → List ℕ → List ℕ
rows_text d bs [] = []
rows_text d bs (x ∷ xs) = row_text d bs x ++ rows_text d bs xs

-- the line above them, with the berths bs
abbrev pub heading_text : List ℕ → List ℕ
heading_text bs = codes "from / to" ++ (tabbed bs ++ (10 ∷ []))

-- the table of the distances d between the berths bs, from the berth on the left to the berth on top
abbrev pub table_text : (ℕ → ℕ → Option ℕ) → List ℕ → List ℕ
table_text d bs = heading_text bs ++ rows_text d bs bs

-- how many edges were read, and the table of the distances d between their berths
abbrev pub distances_text : List Edge → (ℕ → ℕ → Option ℕ) → List ℕ
distances_text es d = codes "edges read: " ++ (decimal (length es) ++ (codes "\nleast distances in minutes (- where there is no way):\n" ++ table_text d (named_berths es)))

-- d are the distances over the edges es
abbrev pub Distances : List Edge → (ℕ → ℕ → Option ℕ) → Type 0
Distances es d = (x y : ℕ) → ∥ Least es x y (d x y) ∥₁

-- the text for the edges es: the fault, if there is one, or else their number and the distances between their berths
abbrev pub Tells : List Edge → Option Fault → List ℕ → Type 0
Tells es (Some f) text = text ≡ fault_line f
Tells es None text = (d : ℕ → ℕ → Option ℕ) × Distances es d × (text ≡ distances_text es d)

-- the text for an edges sheet
abbrev pub Reports : List ℕ → List ℕ → Type 0
Reports sheet text = (es : List Edge) × (fault : Option Fault) × Reads edge_rules 200 sheet es fault × Tells es fault text
