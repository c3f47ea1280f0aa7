use Rattle.clause_solver.proofs.NewLemmas.{teaching_clauses_are_new}
use Rattle.clause_solver.proofs.laws.teaching_clauses_are_new.Goals as goal

pub returns : goal.returns
returns c = teaching_clauses_are_new
