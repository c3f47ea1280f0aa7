use Rattle.std.proofs.Common.{◌≡◌, ◌++◌}
use Rattle.annotation_encode.specs.BaseClauses.{each_below}
use Rattle.letter_clauses.specs.BaseClauses.{letter_clauses}
use Rattle.letter_clauses.proofs.clauses.Encoding.push_clauses_of_state.Given as goal

abbrev pub invariant-loop-letter : goal.invariant-loop-letter
invariant-loop-letter l = l.clauses.items ≡ l.fn.clauses.items ++ each_below l.letter (λ i. letter_clauses l.self.size.problem.now l.self.size.letters.now l.edge l.t i)
