use Rattle.std.proofs.Common.{◌≡◌, ◌+◌, [], ◌∷◌, ◌++◌}
use Rattle.annotation_encode.specs.BaseClauses.{each_below, order_clause}
use Rattle.letter_clauses.proofs.clauses.Encoding.push_orders_of_row.Given as goal

abbrev pub invariant-loop-more : goal.invariant-loop-more
invariant-loop-more l = l.clauses.items ≡ l.fn.clauses.items ++ each_below l.more (λ k. order_clause l.self.size.problem.now l.place (k + 2) ∷ [])
