use Rattle.annotation_encode.specs.BaseClauses.{base_clauses}
use Rattle.size_laws.proofs.closed_logs_refute.Goals as goal

pub returns : goal.returns
returns c = λ p vars limit log problem made closed.
    c.unmet_has_no_accepted.ensures p problem made (record { unmet = λ values. c.logs_are_sound.ensures.closed values vars (base_clauses p) limit log closed })
