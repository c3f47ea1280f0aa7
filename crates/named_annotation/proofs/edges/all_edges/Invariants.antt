use Rattle.std.proofs.Common.{◌≡◌, take}
use Rattle.named_annotation.specs.NamedStates.{edges_from}
use Rattle.named_annotation.proofs.edges.all_edges.Given as goal

abbrev pub invariant-loop-number : goal.invariant-loop-number
invariant-loop-number l = l.edges.items ≡ edges_from l.of.formulas.now l.of.untils.items l.named.states.keys 0 (take l.number l.named.states.keys)
