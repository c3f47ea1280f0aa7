use Rattle.std.proofs.Common.{sym, subst, inl, inr}
use Rattle.aiger_text.specs.CircuitFile.{IsFirstFault}
use Rattle.aiger_text.specs.CircuitFile.IsFirstFault.{of_line, of_use, of_cycle}
use Rattle.aiger_text.specs.Files.{shown_parts}
use Rattle.aiger_text.proofs.Assembly.{circuit_is}
use Rattle.aiger_text.proofs.reading.read_circuit.Goals as goal

pub returns-in-Err-clause-fault : goal.returns-in-Err-clause-fault
returns-in-Err-clause-fault c = elim c.in-Err.ensures.err [ inl e ↦ inl e | inr e ↦ inr (of_line e) ]

pub returns-in-Some-clause-fault : goal.returns-in-Some-clause-fault
returns-in-Some-clause-fault c = inr (of_use (shown_parts c.in-Ok.parts) c.in-Ok.ensures.ok.parts (sym c.in-Some.ensures))

pub returns-in-Err-gate_order-clause-fault : goal.returns-in-Err-gate_order-clause-fault
returns-in-Err-gate_order-clause-fault c = elim c.in-Err-gate_order.ensures.err [
  | inl e ↦ inl e
  | inr k ↦ inr (subst (IsFirstFault c.args.bytes.now) (sym k.2)
      (of_cycle (shown_parts c.in-Ok.parts) k.0 c.in-Ok.ensures.ok.parts (sym c.in-None.ensures) k.1))
]

pub finish-requires-clause-circuit : goal.finish-requires-clause-circuit
finish-requires-clause-circuit c =
    circuit_is (shown_parts c.in-Ok.parts) c.in-Ok.ensures.ok.sound (sym c.in-None.ensures) c.in-Ok.ensures.ok.room c.in-Ok.ensures.ok.input_names c.in-Ok.ensures.ok.output_names
    c.in-Ok-gate_order.ensures.acyclic

pub returns-in-Ok-finish-clause-states : goal.returns-in-Ok-finish-clause-states
returns-in-Ok-finish-clause-states c = record {
  parts = shown_parts c.in-Ok.parts;
  lines = c.in-Ok.ensures.ok.parts;
  uses = sym c.in-None.ensures;
  no_cycle = λ k h cycle. c.in-Ok-gate_order.ensures.acyclic _ cycle;
  file_is = c.in-Ok-finish.ensures;
}
