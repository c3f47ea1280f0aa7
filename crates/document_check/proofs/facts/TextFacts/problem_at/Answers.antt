use Rattle.letters_and_lassos.specs.declared.kinds.Side.TheVariants.{System}
use Rattle.document_check.specs.Shown.{facts_of}
use Rattle.document_check.proofs.ProblemLemmas.{is_problem, is_ready}
use Rattle.document_check.proofs.facts.TextFacts.problem_at.Goals as goal

pub returns-in_ok-problem-in-System-clause-problem : goal.returns-in_ok-problem-in-System-clause-problem
returns-in_ok-problem-in-System-clause-problem c = λ some few.
    is_problem (facts_of c.args.self) c.args.kind c.args.version System c.args.size c.in_ok-problem-in-System.problem c.requires some few c.in_ok-problem-in-System.ensures

pub returns-in_ok-problem-in-Environment-clause-problem : goal.returns-in_ok-problem-in-Environment-clause-problem
returns-in_ok-problem-in-Environment-clause-problem c = λ some few.
    is_ready c.other.result c.args.version c.args.size some few c.in-Some.problem.now c.in_ok-problem-in-Environment.problem (rw c.in-Some.is at c.requires.environment)
    c.in_ok-problem-in-Environment.ensures
