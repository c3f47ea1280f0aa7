use Rattle.std.proofs.Common.{take}
use Rattle.aiger_text.specs.Step.{IsStateOf}
use Rattle.annot_check.specs.Steps.{AreReactions}
use Rattle.annot_check.proofs.BrokenLemmas.{IsFoundAmong}
use Rattle.annot_check.proofs.product.Product.first_broken.Given as goal

abbrev pub invariant-loop-place : goal.invariant-loop-place
invariant-loop-place l = record {
  fits : IsStateOf l.self.circuit.now l.state;
  known : AreReactions l.self.side l.self.circuit.now l.known;
  found : IsFoundAmong l.self.side l.self.circuit.now l.self.automaton.now l.pairs (take l.place-index l.place-items) l.first;
}
