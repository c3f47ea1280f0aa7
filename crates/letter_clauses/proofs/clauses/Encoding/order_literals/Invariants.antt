use Rattle.std.proofs.Common.{◌≡◌, ◌-◌, [], ◌∷◌}
use Rattle.annotation_encode.specs.BaseClauses.{each_below, is, row_move}
use Rattle.letter_clauses.proofs.clauses.Encoding.order_literals.Given as goal

abbrev pub invariant-loop-before : goal.invariant-loop-before
invariant-loop-before l = l.lits.items ≡ each_below l.before (λ k. is (row_move l.self.size.problem.now k (l.to - 1)) ∷ [])
