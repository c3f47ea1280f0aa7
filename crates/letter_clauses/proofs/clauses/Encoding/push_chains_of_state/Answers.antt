use Rattle.std.proofs.Common.{rules}
use Rattle.letter_clauses.specs.BaseClauses.{pair_chains}
use Rattle.annotation_encode.proofs.Lists.{each_more}
use Rattle.letter_clauses.proofs.clauses.Encoding.push_chains_of_state.Goals as goal

pub loop-q-preserved : goal.loop-q-preserved
loop-q-preserved c = each_more (c.args.clauses.now.items) c.loop-q.clauses.items c.push_chains_of_pair.new.clauses.items (λ q. pair_chains c.args.self.now.size.problem.now c.args.self.now.size.letters.now c.args.t q) c.loop-q.q c.loop-q.invariant (search rules)
