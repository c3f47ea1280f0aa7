use Rattle.std.proofs.Common.{◌≡◌, map, reverse, take}
use Rattle.tlsf_values.specs.EnvSeen.{binding_of}
use Rattle.tlsf_values.proofs.text_value.scope.Given as goal

abbrev pub invariant-loop-entry : goal.invariant-loop-entry
invariant-loop-entry l = l.scope ≡ reverse (map binding_of (take l.entry-index l.bound))
