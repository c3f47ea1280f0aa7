use Rattle.witness_clauses.proofs.Formulas.{all_are_formulas}
use Rattle.witness_clauses.proofs.laws.obligations_are_formulas.Goals as goal

pub returns : goal.returns
returns c = all_are_formulas
