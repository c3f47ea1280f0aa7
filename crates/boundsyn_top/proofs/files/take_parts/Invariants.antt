use Rattle.std.proofs.Common.{◌≡◌, ◌≢◌, ◌-◌, ◌^◌, ℕ, List, take, length}
use Rattle.std.specs.Prelude.{IfSome}
use Rattle.input_output.specs.Files.{bytes_under}
use Rattle.boundsyn_top.proofs.files.take_parts.Given as goal

-- so far a front of the file was taken, and no count rose
abbrev pub invariant-loop-bytes : goal.invariant-loop-bytes
invariant-loop-bytes g l =
    IfSome (g.H.Shelf.files l.initial.shelf) (λ files. l.bytes.items ≡ take (length l.bytes.items) (bytes_under files l.name))
    × (g.H.Shelf.files l.shelf ≡ g.H.Shelf.files l.initial.shelf)
    × (g.H.Shelf.faults l.shelf l.name ≡ g.H.Shelf.faults l.initial.shelf l.name)
    × ((other : List ℕ) → other ≢ l.name → g.H.Shelf.faults l.shelf other ≡ g.H.Shelf.faults l.initial.shelf other)

abbrev pub decreases-loop-bytes : goal.decreases-loop-bytes
decreases-loop-bytes g l = 2 ^ 64 - length l.bytes.items
