use Rattle.std.proofs.Common.{◌≡◌, ◌++◌}
use Rattle.annotation_encode.specs.BaseClauses.{each_below, letter_clauses}
use Rattle.annotation_encode.proofs.clauses.Encoding.push_clauses_of_state.Given as goal

abbrev pub invariant-loop-letter : goal.invariant-loop-letter
invariant-loop-letter l = l.clauses.items ≡ l.fn.clauses.items ++ each_below l.letter (λ i. letter_clauses l.self.numbering.problem.now l.edge l.t i)
