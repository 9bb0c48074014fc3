-- The word of each layer. Assumes nothing.
use Rattle.std.specs.Prelude.{ℕ, List, codes}
use Rattle.faults.specs.declared.layer.Layer.{Layer}
use Rattle.faults.specs.declared.layer.Layer.TheVariants.{Edges, Events, Activities, Settings, Links, Charges, Tape, Timetable, Board, Planner}

-- the word by which a layer is shown
abbrev pub word_of : Layer → List ℕ
word_of Edges = codes "edges"
word_of Events = codes "events"
word_of Activities = codes "activities"
word_of Settings = codes "settings"
word_of Links = codes "links"
word_of Charges = codes "charges"
word_of Tape = codes "tape"
word_of Timetable = codes "timetable"
word_of Board = codes "board"
word_of Planner = codes "planner"
