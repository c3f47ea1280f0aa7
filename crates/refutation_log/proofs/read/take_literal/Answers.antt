use Rattle.refutation_log.proofs.LineLemmas.{number_of_literal, no_literal_zero}
use Rattle.refutation_log.proofs.read.take_literal.Goals as goal

pub returns-in_err-var : goal.returns-in_err-var
returns-in_err-var c =
    rw c.from_residual.ensures (λ l rest h. c.in_err-var.ensures l.var rest
    (number_of_literal c.args.bytes.now c.take_sign-positive.result.1.now c.take_sign-positive.result.0 c.take_sign-positive.ensures.text c.take_sign-positive.ensures.positive l rest h))

pub returns-then-var-eq0 : goal.returns-then-var-eq0
returns-then-var-eq0 c =
    no_literal_zero c.args.bytes.now c.take_sign-positive.result.1.now c.in_ok-var.rest.now c.take_sign-positive.result.0 c.take_sign-positive.ensures.text
    c.take_sign-positive.ensures.positive (rw c.if-var-eq0.true at c.in_ok-var.ensures)
