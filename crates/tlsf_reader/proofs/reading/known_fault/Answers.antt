use Rattle.std.proofs.Common.{map}
use Rattle.tlsf_reader.specs.Seen.{seen}
use Rattle.tlsf_reader.proofs.FoundFaults.{known_found}
use Rattle.tlsf_reader.proofs.reading.known_fault.Goals as goal

pub returns : goal.returns
returns c =
    rw (c.earlier-2.ensures, c.earlier.ensures, c.stop_fault.ensures, c.deep_fault.ensures, c.fault_at-finite.ensures)
    (known_found (map seen c.args.lexed.now.lexemes.items) c.args.lexed.now.stop c.args.lexed.now.stop_at c.args.deep c.first_finite.result (rw c.deref.ensures.value at c.first_finite.ensures))
