use Rattle.std.proofs.Common.{rules}
use Rattle.letter_clauses.specs.BaseClauses.{state_clauses}
use Rattle.annotation_encode.proofs.Lists.{each_more}
use Rattle.letter_clauses.proofs.clauses.Encoding.push_clauses_of_edge.Goals as goal

pub loop-t-preserved : goal.loop-t-preserved
loop-t-preserved c = each_more (c.args.clauses.now.items) c.loop-t.clauses.items c.push_clauses_of_state.new.clauses.items (λ t. state_clauses c.args.self.now.size.problem.now c.args.self.now.size.letters.now c.args.edge t) c.loop-t.t c.loop-t.invariant (search rules)
