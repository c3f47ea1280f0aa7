use Rattle.annot_check.proofs.EdgeLemmas.{LeadsBelow}
use Rattle.annot_check.proofs.product.Product.keeps_rule.Given as goal

abbrev pub invariant-loop-step : goal.invariant-loop-step
invariant-loop-step l = LeadsBelow l.self.side l.self.circuit.now l.self.automaton.now l.self.numbers.now l.pair l.step-index
