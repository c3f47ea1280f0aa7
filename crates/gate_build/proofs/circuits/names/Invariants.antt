use Rattle.std.proofs.Common.{◌≡◌, take, Some}
use Rattle.std.specs.Prelude.{map}
use Rattle.gate_build.proofs.circuits.names.Given as goal

abbrev pub invariant-loop-name : goal.invariant-loop-name
invariant-loop-name l = l.named.items ≡ map (λ name. Some name) (take l.name-index l.names)
