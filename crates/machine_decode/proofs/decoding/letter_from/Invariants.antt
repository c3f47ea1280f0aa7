use Rattle.std.proofs.Common.{◌≡◌}
use Rattle.machine_decode.specs.Written.{letter_from}
use Rattle.machine_decode.proofs.decoding.letter_from.Given as goal

abbrev pub invariant-loop-signal : goal.invariant-loop-signal
invariant-loop-signal l = l.letter ≡ letter_from l.values l.first l.signal
