use Rattle.machine_model.proofs.Existence.{every_read_lasso_has_a_run}
use Rattle.machine_model.proofs.laws.every_read_lasso_has_a_run.Goals as goal

pub returns : goal.returns
returns c = every_read_lasso_has_a_run
