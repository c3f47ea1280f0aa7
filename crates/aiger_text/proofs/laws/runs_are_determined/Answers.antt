use Rattle.aiger_text.proofs.Runs.{runs_are_determined}
use Rattle.aiger_text.proofs.laws.runs_are_determined.Goals as goal

pub returns : goal.returns
returns c = rw (← c.circuit.view_is) (runs_are_determined _ c.circuit.invariant.0 c.circuit.inside.order.items c.circuit.invariant.1)
