use Rattle.circuit_names.proofs.Fitting.{told}
use Rattle.circuit_names.proofs.laws.names_are_told.Goals as goal

pub returns : goal.returns
returns c = told
