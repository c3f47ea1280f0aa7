use Rattle.std.proofs.Common.{◌≡◌, map, drop}
use Rattle.tlsf_syntax.specs.Seen.{definition_seen}
use Rattle.tlsf_expand.specs.Signals.{values_named}
use Rattle.tlsf_expand.proofs.enumerations.members_named.Given as goal

abbrev pub invariant-loop-definition : goal.invariant-loop-definition
invariant-loop-definition l =
    values_named l.name (map definition_seen l.fn.definitions) ≡ values_named l.name (map definition_seen (drop l.definition-index l.definitions))
