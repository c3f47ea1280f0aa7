-- How many variables the circuit has at most.
use Rattle.std.proofs.Common.{◌≡◌, ℕ, ◌+◌, ◌*◌, ◌^◌, ◌≤◌, List, length, arith}
use Rattle.std.proofs.Math.Nat.{mul-le-mul}
use Rattle.std.proofs.Math.Pow.{pow_mono}
use Rattle.machine_model.specs.Machine.{MachineModel, size_of}
use Rattle.gate_build.specs.Limits.{IsSmallMachine}
use Rattle.gate_build.specs.Table.{circuit_of, latches_of, nexts_of, outputs_of, split_literals}
use Rattle.gate_build.proofs.Splits.{most_gates}
use Rattle.gate_build.proofs.Whole.{few_latches, length-split, nexts_good, outputs_good}

-- a function of 3 latches and 8 inputs has at most 3 * (2 ^ 11 - 1) gates
most_each : (n : ℕ) → n ≤ 11 → most_gates n ≤ 6141
most_each n few = let most : 2 ^ n ≤ 2 ^ 11 = pow_mono few in omega (arith, most)

module _ (m : MachineModel) (read_names write_names : List (List ℕ)) (reads : length read_names ≡ m.reads) (writes : length write_names ≡ m.writes) where
  pub few_variables : IsSmallMachine m → (circuit_of m read_names write_names).variables ≤ 67562
  few_variables small =
      let read : m.reads ≤ 8 = small.reads in
      let written : m.writes ≤ 8 = small.writes in
      let latches : latches_of m ≤ 3 = few_latches (size_of m) in
      let each : most_gates (length (split_literals m)) ≤ 6141 = most_each (length (split_literals m)) (omega (arith, read, latches, length-split m)) in
      let one : length (nexts_of m).gates ≤ 0 + latches_of m * most_gates (length (split_literals m)) = (nexts_good m read_names write_names reads writes).few in
      let other : length (outputs_of m).gates ≤ length (nexts_of m).gates + m.writes * most_gates (length (split_literals m)) = (outputs_good m read_names write_names reads writes).few in
      let nexts : latches_of m * most_gates (length (split_literals m)) ≤ 3 * 6141 = mul-le-mul latches each in
      let outputs : m.writes * most_gates (length (split_literals m)) ≤ 8 * 6141 = mul-le-mul written each in
      omega (arith, read, latches, one, other, nexts, outputs)
