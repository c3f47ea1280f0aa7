use Rattle.letter_clauses.specs.BaseClauses.{base_clauses}
use Rattle.letter_clauses.proofs.laws.closed_logs_refute.Goals as goal

pub returns : goal.returns
returns c = λ p letters vars limit log problem made closed.
    c.unmet_has_no_accepted.ensures p letters problem made (λ values. c.logs_are_sound.ensures.closed values vars (base_clauses p letters) limit log closed)
