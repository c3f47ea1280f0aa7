use Rattle.std.proofs.Common.{◌≡◌, ◌++◌, length}
use Rattle.tlsf_values.specs.Steps.{rest_from, those_from}
use Rattle.tlsf_values.proofs.steps.laid_out.Given as goal

abbrev pub invariant-loop-next : goal.invariant-loop-next
invariant-loop-next l = rest_from l.fn.first l.by l.fn.last ≡ l.numbers.items ++ those_from l.by l.fn.last l.next

abbrev pub decreases-loop-next : goal.decreases-loop-next
decreases-loop-next l = length (those_from l.by l.fn.last l.next)
