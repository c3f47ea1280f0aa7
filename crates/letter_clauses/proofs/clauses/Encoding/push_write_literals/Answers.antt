use Rattle.std.proofs.Common.{rules}
use Rattle.letter_clauses.specs.BaseClauses.{write_literal}
use Rattle.annotation_encode.proofs.Lists.{each_more}
use Rattle.letter_clauses.proofs.clauses.Encoding.push_write_literals.Goals as goal

pub loop-signal-preserved : goal.loop-signal-preserved
loop-signal-preserved c = each_more (c.args.lits.now.items) c.loop-signal.lits.items c.push_write_literal.new.lits.items (λ s. write_literal c.args.self.now.size.problem.now c.args.self.now.size.letters.now c.args.cube c.args.t c.args.letter s) c.loop-signal.signal c.loop-signal.invariant (search rules)
