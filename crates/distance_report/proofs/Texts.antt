-- The text of a chart's distances from its parts. Assumes nothing.
use Rattle.std.proofs.Common.{◌≡◌, ℕ, List, ◌++◌, length, codes, decimal, Option, ap, ◌∙◌}
use Rattle.walks.specs.declared.edge.Edge.{Edge}
use Rattle.distance_report.specs.Berths.{named_berths}
use Rattle.distance_report.specs.Lines.{table_text, distances_text}

pub parts_text : (es counted listed : List Edge) (bs : List ℕ) (d : ℕ → ℕ → Option ℕ) → counted ≡ es → listed ≡ es → bs ≡ named_berths listed →
    codes "edges read: " ++ (decimal (length counted) ++ (codes "\nleast distances in minutes (- where there is no way):\n" ++ table_text d bs)) ≡ distances_text es d
parts_text es counted listed bs d p q r =
    ap (λ l. codes "edges read: " ++ (decimal (length l) ++ (codes "\nleast distances in minutes (- where there is no way):\n" ++ table_text d bs))) p
    ∙ ap (λ l. codes "edges read: " ++ (decimal (length es) ++ (codes "\nleast distances in minutes (- where there is no way):\n" ++ table_text d l))) (r ∙ ap named_berths q)
