use Rattle.std.proofs.Common.{rules}
use Rattle.letter_clauses.specs.BaseClauses.{state_chains}
use Rattle.annotation_encode.proofs.Lists.{each_more}
use Rattle.letter_clauses.proofs.clauses.Encoding.push_chain_clauses.Goals as goal

pub loop-t-preserved : goal.loop-t-preserved
loop-t-preserved c = each_more (c.args.clauses.now.items) c.loop-t.clauses.items c.push_chains_of_state.new.clauses.items (λ t. state_chains c.args.self.now.size.problem.now c.args.self.now.size.letters.now t) c.loop-t.t c.loop-t.invariant (search rules)
