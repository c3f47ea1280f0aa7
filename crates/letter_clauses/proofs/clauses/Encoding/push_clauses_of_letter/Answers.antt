use Rattle.std.proofs.Common.{rules}
use Rattle.letter_clauses.specs.BaseClauses.{step_clauses}
use Rattle.annotation_encode.proofs.Lists.{each_more}
use Rattle.letter_clauses.proofs.clauses.Encoding.push_clauses_of_letter.Goals as goal

pub loop-to-preserved : goal.loop-to-preserved
loop-to-preserved c = each_more (c.args.clauses.now.items) c.loop-to.clauses.items c.push_clauses_of_step.new.clauses.items (λ to. step_clauses c.args.self.now.size.problem.now c.args.self.now.size.letters.now c.args.edge c.args.t c.args.letter to) c.loop-to.to c.loop-to.invariant (search rules)
