use Rattle.std.proofs.Common.{◌≡◌}
use Rattle.machine_decode.specs.Written.{greatest_from}
use Rattle.machine_decode.proofs.decoding.greatest_from.Given as goal

abbrev pub invariant-loop-count : goal.invariant-loop-count
invariant-loop-count l = l.greatest ≡ greatest_from l.values l.first l.count
