use Rattle.std.proofs.Common.{◌≡◌, ℕ, ◌*◌, ◌/◌, ◌<◌}
use Rattle.machine_model.specs.Machine.{writes_in}
use Rattle.machine_model.proofs.machines.writes_by_letter.Given as goal

abbrev pub invariant-loop-place : goal.invariant-loop-place
invariant-loop-place l = (k : ℕ) → k < l.place → writes_in l.table k ≡ writes_in l.table (k / l.letters * l.letters)
