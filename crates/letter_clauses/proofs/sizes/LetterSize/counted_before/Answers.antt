use Rattle.std.proofs.Common.{sym, ◌∙◌}
use Rattle.annotation_encode.proofs.Counted.{local_sum}
use Rattle.letter_clauses.proofs.sizes.LetterSize.counted_before.Goals as goal

pub returns : goal.returns
returns c = c.before-sum.ensures ∙ c.components.ensures.before c.args.q c.requires.state ∙ sym (local_sum c.args.self.now.problem.now c.args.q c.requires.size.local)
