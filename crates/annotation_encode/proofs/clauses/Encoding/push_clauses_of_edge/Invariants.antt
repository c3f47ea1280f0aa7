use Rattle.std.proofs.Common.{◌≡◌, ◌++◌}
use Rattle.annotation_encode.specs.BaseClauses.{each_below, state_clauses}
use Rattle.annotation_encode.proofs.clauses.Encoding.push_clauses_of_edge.Given as goal

abbrev pub invariant-loop-t : goal.invariant-loop-t
invariant-loop-t l = l.clauses.items ≡ l.fn.clauses.items ++ each_below l.t (λ t. state_clauses l.self.numbering.problem.now l.edge t)
