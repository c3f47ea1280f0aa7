use Rattle.std.proofs.Common.{◌≡◌, map, drop}
use Rattle.tlsf_values.specs.Names.{with_definitions}
use Rattle.tlsf_values.specs.NamesSeen.{names_seen}
use Rattle.tlsf_syntax.specs.Seen.{definition_seen}
use Rattle.tlsf_values.proofs.names.Names.add_definitions.Given as goal

abbrev pub invariant-loop-definition : goal.invariant-loop-definition
invariant-loop-definition l = with_definitions (names_seen l.fn.self) (map definition_seen l.fn.definitions) ≡ with_definitions (names_seen l.self) (map definition_seen (drop l.definition-index l.definitions))
