use Rattle.std.proofs.Common.{◌≡◌, ◌++◌}
use Rattle.annotation_encode.specs.BaseClauses.{each_below, row_orders}
use Rattle.letter_clauses.proofs.clauses.Encoding.push_order_clauses.Given as goal

abbrev pub invariant-loop-place : goal.invariant-loop-place
invariant-loop-place l = l.clauses.items ≡ l.fn.clauses.items ++ each_below l.place (λ place. row_orders l.self.size.problem.now place)
