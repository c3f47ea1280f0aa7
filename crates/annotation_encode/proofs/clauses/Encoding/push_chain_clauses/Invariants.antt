use Rattle.std.proofs.Common.{◌≡◌, ◌++◌}
use Rattle.annotation_encode.specs.BaseClauses.{each_below, state_chains}
use Rattle.annotation_encode.proofs.clauses.Encoding.push_chain_clauses.Given as goal

abbrev pub invariant-loop-t : goal.invariant-loop-t
invariant-loop-t l = l.clauses.items ≡ l.fn.clauses.items ++ each_below l.t (λ t. state_chains l.self.numbering.problem.now t)
