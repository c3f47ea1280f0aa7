use Rattle.std.proofs.Common.{take}
use Rattle.boundsyn_top.proofs.BatchLemmas.{TakenSoFar}
use Rattle.boundsyn_top.proofs.batches.take_texts.Given as goal

abbrev pub invariant-loop-name : goal.invariant-loop-name
invariant-loop-name g l =
    TakenSoFar (g.H.Shelf.files l.initial.shelf) (g.H.Shelf.files l.shelf) (g.H.Shelf.faults l.initial.shelf) (g.H.Shelf.faults l.shelf)
    l.names (take l.name-index l.names) l.texts.items
