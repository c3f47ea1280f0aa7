use Rattle.std.proofs.Common.{◌≡◌}
use Rattle.annotation_encode.specs.Count.{allowed_sizes}
use Rattle.annotation_encode.proofs.counting.allowed_sizes.Given as goal

abbrev pub invariant-loop-fewer : goal.invariant-loop-fewer
invariant-loop-fewer l = allowed_sizes l.problem l.max ≡ allowed_sizes l.problem l.fewer
