use Rattle.std.proofs.Common.{◌≡◌, vec_len}
use Rattle.layer_tests.proofs.circuits.names.Given as goal

abbrev pub invariant-loop-letter : goal.invariant-loop-letter
invariant-loop-letter l = vec_len l.names ≡ l.letter
