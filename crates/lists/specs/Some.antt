-- Whether some element of a list passes a test. Assumes nothing.
use Rattle.std.specs.Prelude.{Bool, List}
use Rattle.std.specs.List.{list_any}

abbrev pub some_pass : {X : Type 0} → (X → Bool) → List X → Bool
some_pass p xs = list_any p xs
