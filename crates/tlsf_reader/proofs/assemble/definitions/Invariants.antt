use Rattle.std.proofs.Common.{◌≡◌, map}
use Rattle.tlsf_reader.specs.Parts.{definitions_of}
use Rattle.tlsf_reader.specs.TextView.{block_view, each}
use Rattle.tlsf_syntax.specs.Seen.{definition_seen}
use Rattle.tlsf_reader.proofs.assemble.definitions.Given as goal

abbrev pub invariant-loop-block : goal.invariant-loop-block
invariant-loop-block l = (each definition_seen) l.all ≡ definitions_of (map block_view l.yielded)
