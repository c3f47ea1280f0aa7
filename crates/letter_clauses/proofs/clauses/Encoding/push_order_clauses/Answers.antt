use Rattle.std.proofs.Common.{rules}
use Rattle.annotation_encode.specs.BaseClauses.{row_orders}
use Rattle.annotation_encode.proofs.Lists.{each_more}
use Rattle.letter_clauses.proofs.clauses.Encoding.push_order_clauses.Goals as goal

pub loop-place-preserved : goal.loop-place-preserved
loop-place-preserved c = each_more (c.args.clauses.now.items) c.loop-place.clauses.items c.push_orders_of_row.new.clauses.items (λ place. row_orders c.args.self.now.size.problem.now place) c.loop-place.place c.loop-place.invariant (search rules)
