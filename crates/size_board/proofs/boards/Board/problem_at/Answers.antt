use Rattle.std.proofs.Common.{◌≡◌, arith}
use Rattle.std.proofs.lemmas.Result.{IfOk-weaker}
use Rattle.machine_model.specs.Problem.{parts_of, sized}
use Rattle.size_board.specs.Names.{IsProblemAt}
use Rattle.size_board.proofs.Problems.{problem_at}
use Rattle.size_board.proofs.boards.Board.problem_at.Goals as goal

pub returns-clause-problem : goal.returns-clause-problem
returns-clause-problem g c =
    IfOk-weaker c.sized.result (λ p. parts_of p ≡ parts_of (sized c.in-Some.problem.now c.args.claim.size)) (IsProblemAt g.P.ProblemNames.named c.args.claim.side c.args.claim.size)
    (λ p same.
    problem_at g.P.ProblemNames.named c.args.claim.side c.args.claim.size c.in-Some.problem.now p c.in-Some.ensures.problem c.requires.some (omega (arith, c.requires.allowed, c.problem.ensures.few)) same)
    c.sized.ensures
