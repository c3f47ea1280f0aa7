use Rattle.std.proofs.Common.{◌≡◌, ◌++◌, map, take}
use Rattle.named_annotation.specs.NamedStates.{edge_of}
use Rattle.named_annotation.proofs.edges.add_edges.Given as goal

abbrev pub invariant-loop-cover : goal.invariant-loop-cover
invariant-loop-cover l = l.edges.items ≡ l.fn.edges.items ++ map (edge_of l.untils l.states.keys l.number l.counter) (take l.cover-index l.covers)
