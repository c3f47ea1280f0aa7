use Rattle.machine_decode.specs.Written.{AreRows}
use Rattle.machine_decode.proofs.decoding.decoded_table.Given as goal

abbrev pub invariant-loop-place : goal.invariant-loop-place
invariant-loop-place l = AreRows l.problem l.values l.place l.table.items
