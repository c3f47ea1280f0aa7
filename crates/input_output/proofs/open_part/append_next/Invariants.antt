use Rattle.std.proofs.Common.{◌≡◌, ℕ, ◌+◌, List, ◌++◌, length}
use Rattle.input_output.proofs.open_part.append_next.Given as goal

-- what was appended so far, and the room that is left
abbrev pub invariant-loop-room : goal.invariant-loop-room
invariant-loop-room g l =
    (bytes : List ℕ) × (l.into.items ≡ l.fn.into.items ++ bytes) × (length bytes + l.room ≡ l.most)

abbrev pub decreases-loop-room : goal.decreases-loop-room
decreases-loop-room g l = l.room
