use Rattle.std.proofs.Common.{sym, subst}
use Rattle.std.specs.Prelude.{IfSome}
use Rattle.aiger_text.specs.CircuitFile.{File}
use Rattle.document_text.specs.declared.reading.CircuitPart.{CircuitPart}
use Rattle.document_text.specs.Reading.{circuit_in}
use Rattle.solve_check.specs.Parts.{IsSoundCircuit}
use Rattle.solve_check.proofs.claims.circuit_is_sound.Goals as goal

pub returns-in-Stated : goal.returns-in-Stated
returns-in-Stated c =
    let sound : IsSoundCircuit c.in-Stated.file.circuit =
    subst (λ (f : File). IsSoundCircuit f.circuit) c.file.view_is (record { is_circuit = c.circuit_is_kept.ensures; runs = c.runs_on_every_input.ensures; kind = c.valid_lists_show_kind.ensures }) in
    subst (λ (p : CircuitPart). IfSome (circuit_in p) IsSoundCircuit) (sym c.in-Stated.is) sound
