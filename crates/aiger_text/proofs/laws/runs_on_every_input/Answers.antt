use Rattle.aiger_text.proofs.CircuitMachine.{runs_on}
use Rattle.aiger_text.proofs.laws.runs_on_every_input.Goals as goal

pub returns : goal.returns
returns c = rw (← c.circuit.view_is) (λ side reads over. runs_on _ c.circuit.invariant.0 c.circuit.inside.order.items c.circuit.invariant.1 side reads over)
