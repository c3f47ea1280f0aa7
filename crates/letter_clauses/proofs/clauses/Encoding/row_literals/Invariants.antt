use Rattle.std.proofs.Common.{◌≡◌, [], ◌∷◌}
use Rattle.annotation_encode.specs.BaseClauses.{each_below, is, row_move}
use Rattle.letter_clauses.proofs.clauses.Encoding.row_literals.Given as goal

abbrev pub invariant-loop-to : goal.invariant-loop-to
invariant-loop-to l = l.lits.items ≡ each_below l.to (λ to. is (row_move l.self.size.problem.now l.place to) ∷ [])
