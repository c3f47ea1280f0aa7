use Rattle.std.proofs.Common.{◌≡◌, take}
use Rattle.std.specs.Prelude.{All}
use Rattle.annot_check.specs.Steps.{IsEnough, LeadsOn}
use Rattle.annot_check.proofs.product.Product.all_lead.Given as goal

abbrev pub invariant-loop-edge : goal.invariant-loop-edge
invariant-loop-edge l = record {
  code : l.place.code ≡ l.next;
  lead : All (LeadsOn l.letter (IsEnough l.self.numbers.now l.self.automaton.now l.number l.next)) (take l.edge-index l.edges);
}
