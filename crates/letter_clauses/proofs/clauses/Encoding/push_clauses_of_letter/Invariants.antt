use Rattle.std.proofs.Common.{◌≡◌, ◌++◌}
use Rattle.annotation_encode.specs.BaseClauses.{each_below}
use Rattle.letter_clauses.specs.BaseClauses.{step_clauses}
use Rattle.letter_clauses.proofs.clauses.Encoding.push_clauses_of_letter.Given as goal

abbrev pub invariant-loop-to : goal.invariant-loop-to
invariant-loop-to l = l.clauses.items ≡ l.fn.clauses.items ++ each_below l.to (λ to. step_clauses l.self.size.problem.now l.self.size.letters.now l.edge l.t l.letter to)
