use Rattle.letter_clauses.proofs.Refuted.{met_by_accepted}
use Rattle.letter_clauses.proofs.laws.accepted_is_met.Goals as goal

pub returns : goal.returns
returns c = λ p letters problem made. met_by_accepted p letters problem made c.components_are_classes.ensures
