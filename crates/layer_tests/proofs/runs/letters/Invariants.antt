use Rattle.std.proofs.Common.{◌<◌}
use Rattle.std.specs.Prelude.{All}
use Rattle.layer_tests.proofs.runs.letters.Given as goal

abbrev pub invariant-loop-digit : goal.invariant-loop-digit
invariant-loop-digit l = All (λ letter. letter.0 < 2) l.letters.items
