use Rattle.std.proofs.Common.{◌≡◌, [], ◌∷◌, ◌++◌}
use Rattle.annotation_encode.specs.BaseClauses.{each_below, isnt}
use Rattle.letter_clauses.specs.BaseClauses.{step_clause, write_literals}
use Rattle.letter_clauses.specs.Variables.{var_move}
use Rattle.letter_clauses.proofs.clauses.Encoding.push_clauses_of_step.Given as goal

abbrev pub invariant-loop-count : goal.invariant-loop-count
invariant-loop-count l = record {
  clauses : l.clauses.items ≡ l.fn.clauses.items ++ each_below l.count (λ c. step_clause l.self.size.problem.now l.self.size.letters.now l.edge l.t l.letter l.to c ∷ []);
  lits : l.lits.items ≡ isnt (var_move l.self.size.problem.now l.self.size.letters.now l.t l.letter l.to) ∷ write_literals l.self.size.problem.now l.self.size.letters.now l.edge.cube l.t l.letter;
}
