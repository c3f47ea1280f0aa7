use Rattle.std.proofs.Common.{◌≡◌, drop}
use Rattle.witness_bounds.specs.Lines.{first_refused, is_of_frame}
use Rattle.witness_bounds.proofs.lines.first_latch.Given as goal

abbrev pub invariant-loop-place : goal.invariant-loop-place
invariant-loop-place l = first_refused (λ _ k. is_of_frame l.bounds k) 0 l.latches ≡ first_refused (λ _ k. is_of_frame l.bounds k) l.place (drop l.place l.latches)
