-- The values of a circuit's latches as a key of a map (this project's own).
use Rattle.std.specs.Prelude.{List, Bool}
use Rattle.std.specs.Cmp.Lexicographic.{pointwise}
use Rattle.std.specs.Bool.{beq}

-- whether two codes are the same, value by value
abbrev pub same_code : List Bool → List Bool → Bool
same_code a b = pointwise beq a b
