use Rattle.std.proofs.Common.{◌≡◌, ℕ, ◌<◌, true}
use Rattle.aiger_text.specs.declared.groups.Stage.TheVariants.{Done}
use Rattle.aiger_text.specs.Groups.{stage_at}
use Rattle.aiger_text.proofs.groups.first_cyclic.Given as goal

abbrev pub invariant-loop-place : goal.invariant-loop-place
invariant-loop-place l = (i : ℕ) → i < l.place → stage_at l.stages i ≡ Done true → ⊥
