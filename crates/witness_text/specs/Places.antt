-- The numbers of a witness's lines (this project's own).
use Rattle.std.specs.Prelude.{ℕ, ◌+◌, ◌^◌, ◌<◌, List, [], ◌∷◌, length, take}
use Rattle.truth_witness.specs.Logs.{ObligationLog}
use Rattle.witness_text.specs.Reading.{WitnessLines}

-- a line for each head, and for each entry
abbrev pub lines_of_logs : List ObligationLog → ℕ
lines_of_logs [] = 0
lines_of_logs (log ∷ logs) = 1 + length log.entries + lines_of_logs logs

abbrev pub latch_line : WitnessLines → ℕ → ℕ
latch_line w k = w.first + 1 + k

abbrev pub gate_line : WitnessLines → ℕ → ℕ
gate_line w k = w.first + 1 + length w.latches + k

abbrev pub always_line : WitnessLines → ℕ
always_line w = w.first + 1 + length w.latches + length w.gates

abbrev pub part_line : WitnessLines → ℕ → ℕ
part_line w k = always_line w + 1 + k

-- the line of the head of the log at a place
abbrev pub log_line : WitnessLines → ℕ → ℕ
log_line w k = always_line w + 1 + length w.parts + lines_of_logs (take k w.logs)

-- the lines that were read, and those behind them, have numbers of 64 bits
abbrev pub IsNumbered : WitnessLines → Type 0
IsNumbered w = always_line w + 1 + length w.parts + lines_of_logs w.logs + 1 < 2 ^ 64
