use Rattle.std.proofs.Common.{◌≡◌, ◌++◌}
use Rattle.annotation_encode.specs.BaseClauses.{each_below, step_clauses}
use Rattle.annotation_encode.proofs.clauses.Encoding.push_clauses_of_letter.Given as goal

abbrev pub invariant-loop-to : goal.invariant-loop-to
invariant-loop-to l = l.clauses.items ≡ l.fn.clauses.items ++ each_below l.to (λ to. step_clauses l.self.numbering.problem.now l.edge l.t l.letter to)
