use Rattle.std.proofs.Common.{◌≡◌, drop}
use Rattle.witness_bounds.specs.Lines.{first_refused, is_part_of_frame}
use Rattle.witness_bounds.proofs.lines.first_part.Given as goal

abbrev pub invariant-loop-place : goal.invariant-loop-place
invariant-loop-place l = first_refused (λ _ p. is_part_of_frame l.bounds p) 0 l.parts ≡ first_refused (λ _ p. is_part_of_frame l.bounds p) l.place (drop l.place l.parts)
