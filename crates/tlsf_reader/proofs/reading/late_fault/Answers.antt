use Rattle.std.proofs.Common.{map}
use Rattle.tlsf_reader.specs.Seen.{seen}
use Rattle.tlsf_reader.specs.TextView.{written_view}
use Rattle.tlsf_reader.proofs.FoundFaults.{late_found}
use Rattle.tlsf_reader.proofs.reading.late_fault.Goals as goal

pub returns : goal.returns
returns c =
    rw (c.earlier.ensures, c.fault_at.ensures, c.fault_at-2.ensures, c.least-twice.ensures, c.least-missing.ensures)
    (late_found (map seen c.args.lexemes.now) (written_view c.args.written.now) c.part_twice.result c.in_ok-name_twice.field-0 c.field_missing.result c.part_missing.result c.part_twice.ensures c.in_ok-name_twice.ensures c.field_missing.ensures c.part_missing.ensures)
