use Rattle.std.proofs.Common.{◌≡◌, ◌++◌}
use Rattle.annotation_encode.specs.BaseClauses.{each_below, pair_chains}
use Rattle.annotation_encode.proofs.clauses.Encoding.push_chains_of_state.Given as goal

abbrev pub invariant-loop-q : goal.invariant-loop-q
invariant-loop-q l = l.clauses.items ≡ l.fn.clauses.items ++ each_below l.q (λ q. pair_chains l.self.numbering.problem.now l.t q)
