use Rattle.std.proofs.Common.{sym, ◌∙◌}
use Rattle.std.proofs.lemmas.Bool.{true≢false}
use Rattle.check_answer.proofs.answering.check_answer.Goals as goal

pub returns-then-sixth : goal.returns-then-sixth
returns-then-sixth g c = λ taken. c.solved_answer.ensures taken (c.in_ok-sixth.ensures.0 c.if-sixth.true)

pub returns : goal.returns
returns g c = λ taken. c.earlier_answer.ensures (λ is. true≢false (sym (c.in_ok-sixth.ensures.1 is) ∙ c.if-sixth.false))
