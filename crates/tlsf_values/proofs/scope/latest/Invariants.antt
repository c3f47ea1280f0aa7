use Rattle.std.proofs.Common.{◌≡◌, find, take}
use Rattle.tlsf_values.specs.Names.{same_name}
use Rattle.tlsf_values.specs.ScopeSeen.{bindings_seen}
use Rattle.tlsf_values.proofs.scope.latest.Given as goal

abbrev pub invariant-loop-place : goal.invariant-loop-place
invariant-loop-place l = find (λ b. same_name b.name l.name) (bindings_seen l.bindings) ≡ find (λ b. same_name b.name l.name) (bindings_seen (take l.place l.bindings))
