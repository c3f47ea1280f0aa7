use Rattle.std.proofs.Common.{◌≡◌, ◌++◌}
use Rattle.annotation_encode.specs.BaseClauses.{each_below}
use Rattle.letter_clauses.specs.BaseClauses.{pair_chains}
use Rattle.letter_clauses.proofs.clauses.Encoding.push_chains_of_state.Given as goal

abbrev pub invariant-loop-q : goal.invariant-loop-q
invariant-loop-q l = l.clauses.items ≡ l.fn.clauses.items ++ each_below l.q (λ q. pair_chains l.self.size.problem.now l.self.size.letters.now l.t q)
