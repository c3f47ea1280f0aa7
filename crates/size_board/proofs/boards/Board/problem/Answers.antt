use Rattle.std.proofs.Common.{IfSome, sym, subst}
use Rattle.letters_and_lassos.specs.declared.kinds.Side.{Side}
use Rattle.size_board.specs.Names.{IsProblemOn}
use Rattle.size_board.proofs.Problems.{environment_on}
use Rattle.size_board.proofs.boards.Board.problem.Goals as goal

pub returns-in-Environment-clause-problem : goal.returns-in-Environment-clause-problem
returns-in-Environment-clause-problem g c =
    subst (λ (side : Side). IfSome c.as_ref.result (λ p. IsProblemOn g.P.ProblemNames.named side p.now)) (sym c.in-Environment.is)
    (environment_on g.P.ProblemNames.named c.self.inside.system_problem c.self.inside.environment_problem c.self.inside.system_sizes
    c.self.inside.environment_sizes c.self.invariant.named c.as_ref.result c.as_ref.ensures.value)
