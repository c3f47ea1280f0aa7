use Rattle.clause_solver.proofs.WorkLemmas.{work_goes_on}
use Rattle.clause_solver.proofs.laws.work_goes_on.Goals as goal

pub returns : goal.returns
returns c = work_goes_on
