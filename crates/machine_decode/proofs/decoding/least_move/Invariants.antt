use Rattle.std.proofs.Common.{◌≡◌, ℕ, ◌<◌, false}
use Rattle.propositional_logic.specs.Truth.{value_of}
use Rattle.annotation_encode.specs.BaseClauses.{row_move}
use Rattle.machine_decode.proofs.decoding.least_move.Given as goal

abbrev pub invariant-loop-to : goal.invariant-loop-to
invariant-loop-to l = (s : ℕ) → s < l.to → value_of l.values (row_move l.problem l.place s) ≡ false
