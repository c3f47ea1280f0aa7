use Rattle.std.proofs.Common.{◌≡◌, drop}
use Rattle.letters_and_lassos.specs.Bits.{binary_value}
use Rattle.annot_check.proofs.steps.written_number.Given as goal

abbrev pub invariant-loop-k : goal.invariant-loop-k
invariant-loop-k l = l.number ≡ binary_value (drop l.k l.state.outputs)
