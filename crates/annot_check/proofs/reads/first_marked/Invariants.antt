use Rattle.std.proofs.Common.{◌≡◌, ◌<◌, ℕ, false, get_or}
use Rattle.annot_check.specs.Marks.{marked}
use Rattle.annot_check.proofs.reads.first_marked.Given as goal

abbrev pub invariant-loop-place : goal.invariant-loop-place
invariant-loop-place l = (k : ℕ) → k < l.place → marked l.leads (get_or l.circuit.outputs k 0) ≡ false
