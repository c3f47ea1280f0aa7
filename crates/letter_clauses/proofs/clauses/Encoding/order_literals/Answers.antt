use Rattle.std.proofs.Common.{◌-◌, [], ◌∷◌, rules}
use Rattle.annotation_encode.specs.BaseClauses.{is, row_move}
use Rattle.annotation_encode.proofs.Lists.{each_more}
use Rattle.letter_clauses.proofs.clauses.Encoding.order_literals.Goals as goal

pub loop-before-preserved : goal.loop-before-preserved
loop-before-preserved c = each_more ([]) c.loop-before.lits.items c.push.new.self.items (λ k. is (row_move c.args.self.now.size.problem.now k (c.args.to - 1)) ∷ []) c.loop-before.before c.loop-before.invariant (search rules)
