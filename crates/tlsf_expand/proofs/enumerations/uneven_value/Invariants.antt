use Rattle.std.proofs.Common.{◌≡◌, map, drop}
use Rattle.tlsf_syntax.specs.Seen.{definition_seen}
use Rattle.tlsf_expand.specs.Signals.{uneven_value}
use Rattle.tlsf_expand.proofs.enumerations.uneven_value.Given as goal

abbrev pub invariant-loop-definition : goal.invariant-loop-definition
invariant-loop-definition l = uneven_value (map definition_seen l.fn.definitions) ≡ uneven_value (map definition_seen (drop l.definition-index l.definitions))
