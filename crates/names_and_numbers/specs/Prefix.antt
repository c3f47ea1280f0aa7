-- A list begins with another.
use Rattle.std.specs.Prelude.{◌≡◌, List, ◌++◌}

abbrev pub IsPrefix : {X : Type 0} → List X → List X → Type 0
IsPrefix {X} first list = (more : List X) × (list ≡ first ++ more)
