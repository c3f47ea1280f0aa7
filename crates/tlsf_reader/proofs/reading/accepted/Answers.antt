use Rattle.std.proofs.Common.{map}
use Rattle.tlsf_reader.specs.Seen.{seen}
use Rattle.tlsf_reader.specs.TextView.{written_view}
use Rattle.tlsf_reader.proofs.FoundFaults.{accepted_fault, accepted_tree}
use Rattle.tlsf_reader.proofs.reading.accepted.Goals as goal

pub returns-in-Some : goal.returns-in-Some
returns-in-Some c = accepted_fault (map seen c.args.lexemes.now) (written_view c.args.written) _ c.in-Some.fault c.from.result c.in_ok-fault.ensures c.in-Some.is c.from.ensures

pub returns : goal.returns
returns c = accepted_tree (map seen c.args.lexemes.now) (written_view c.args.written) _ c.in_ok-tree.tree c.in_ok-fault.ensures c.in_default.is c.in_ok-tree.ensures
