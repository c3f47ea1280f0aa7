use Rattle.std.proofs.Common.{[], ◌∷◌, rules}
use Rattle.annotation_encode.specs.BaseClauses.{is, row_move}
use Rattle.annotation_encode.proofs.Lists.{each_more}
use Rattle.letter_clauses.proofs.clauses.Encoding.row_literals.Goals as goal

pub loop-to-preserved : goal.loop-to-preserved
loop-to-preserved c = each_more ([]) c.loop-to.lits.items c.push.new.self.items (λ to. is (row_move c.args.self.now.size.problem.now c.args.place to) ∷ []) c.loop-to.to c.loop-to.invariant (search rules)
