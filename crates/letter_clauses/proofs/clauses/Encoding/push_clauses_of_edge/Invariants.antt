use Rattle.std.proofs.Common.{◌≡◌, ◌++◌}
use Rattle.annotation_encode.specs.BaseClauses.{each_below}
use Rattle.letter_clauses.specs.BaseClauses.{state_clauses}
use Rattle.letter_clauses.proofs.clauses.Encoding.push_clauses_of_edge.Given as goal

abbrev pub invariant-loop-t : goal.invariant-loop-t
invariant-loop-t l = l.clauses.items ≡ l.fn.clauses.items ++ each_below l.t (λ t. state_clauses l.self.size.problem.now l.self.size.letters.now l.edge t)
