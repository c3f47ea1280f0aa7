use Rattle.std.proofs.Common.{◌≡◌, [], ◌∷◌, ◌++◌}
use Rattle.annotation_encode.specs.BaseClauses.{chain_clause, each_below}
use Rattle.annotation_encode.proofs.clauses.Encoding.push_chains_of_pair.Given as goal

abbrev pub invariant-loop-count : goal.invariant-loop-count
invariant-loop-count l = l.clauses.items ≡ l.fn.clauses.items ++ each_below l.count (λ c. chain_clause l.self.numbering.problem.now l.t l.q c ∷ [])
