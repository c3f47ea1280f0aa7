use Rattle.std.proofs.Common.{◌≡◌, ◌+◌, ◌++◌, length}
use Rattle.tlsf_values.specs.SetOperations.{combined}
use Rattle.tlsf_values.proofs.RisingLemmas.{Rises}
use Rattle.tlsf_values.proofs.set_operation.SetOperation.merged.Given as goal

abbrev pub invariant-loop-number : goal.invariant-loop-number
invariant-loop-number l = Rises l.left × Rises l.right × (combined l.self l.fn.left l.fn.right ≡ l.kept.items ++ combined l.self l.left l.right)

abbrev pub decreases-loop-number : goal.decreases-loop-number
decreases-loop-number l = length l.left + length l.right
