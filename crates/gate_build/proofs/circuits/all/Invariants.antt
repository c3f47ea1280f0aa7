use Rattle.std.proofs.Common.{◌≡◌, ◌+◌, ◌*◌, ◌^◌, ◌≤◌, length}
use Rattle.gate_build.specs.Bits.{bit_in, bit_of}
use Rattle.gate_build.specs.Table.{all_of}
use Rattle.gate_build.proofs.circuits.all.Given as goal

abbrev pub invariant-loop-place : goal.invariant-loop-place
invariant-loop-place l =
    (all_of l.machine (λ j. bit_of l.machine (bit_in l.part j)) l.place l.initial.gates.keys ≡ record { gates = l.gates.keys; literals = l.literals.items })
    × (length l.gates.keys ≤ length l.initial.gates.keys + l.place * 2 ^ 13)
