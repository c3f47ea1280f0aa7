use Rattle.std.proofs.Common.{◌≡◌, [], ◌∷◌, ◌++◌}
use Rattle.annotation_encode.specs.BaseClauses.{each_below}
use Rattle.letter_clauses.specs.BaseClauses.{chain_clause}
use Rattle.letter_clauses.proofs.clauses.Encoding.push_chains_of_pair.Given as goal

abbrev pub invariant-loop-count : goal.invariant-loop-count
invariant-loop-count l = l.clauses.items ≡ l.fn.clauses.items ++ each_below l.count (λ c. chain_clause l.self.size.problem.now l.self.size.letters.now l.t l.q c ∷ [])
