use Rattle.std.proofs.Common.{rules}
use Rattle.letter_clauses.specs.BaseClauses.{letter_clauses}
use Rattle.annotation_encode.proofs.Lists.{each_more}
use Rattle.letter_clauses.proofs.clauses.Encoding.push_clauses_of_state.Goals as goal

pub loop-letter-preserved : goal.loop-letter-preserved
loop-letter-preserved c = each_more (c.args.clauses.now.items) c.loop-letter.clauses.items c.push_clauses_of_letter.new.clauses.items (λ i. letter_clauses c.args.self.now.size.problem.now c.args.self.now.size.letters.now c.args.edge c.args.t i) c.loop-letter.letter c.loop-letter.invariant (search rules)
