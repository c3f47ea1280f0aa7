use Rattle.letter_clauses.proofs.Refuted.{none_accepted}
use Rattle.letter_clauses.proofs.laws.unmet_has_no_accepted.Goals as goal

pub returns : goal.returns
returns c = λ p letters problem made. none_accepted p letters problem made c.components_are_classes.ensures
