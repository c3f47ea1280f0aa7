use Rattle.std.proofs.Common.{◌≡◌, map}
use Rattle.std.specs.List.{range_with_len}
use Rattle.machine_decode.specs.Written.{written_number}
use Rattle.machine_decode.proofs.decoding.decoded_numbers.Given as goal

abbrev pub invariant-loop-pair : goal.invariant-loop-pair
invariant-loop-pair l = l.numbers.items ≡ map (written_number l.problem l.values) (range_with_len 0 l.pair)
