use Rattle.aiger_text.proofs.Valuations.{valuations_agree}
use Rattle.aiger_text.proofs.laws.valuations_agree.Goals as goal

pub returns : goal.returns
returns c = rw (← c.circuit.view_is) (valuations_agree _ c.circuit.invariant.0 c.circuit.inside.order.items c.circuit.invariant.1)
