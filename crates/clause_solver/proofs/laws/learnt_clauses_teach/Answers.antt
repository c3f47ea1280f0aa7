use Rattle.clause_solver.proofs.TeachLemmas.{learnt_clauses_teach}
use Rattle.clause_solver.proofs.laws.learnt_clauses_teach.Goals as goal

pub returns : goal.returns
returns c = learnt_clauses_teach
