use Rattle.document_check.proofs.ProblemLemmas.{for_document}
use Rattle.document_check.proofs.facts.problem_for.Goals as goal

pub returns : goal.returns
returns c =
    for_document c.args.problem.now c.in_ok-sized.sized c.args.kind c.args.version c.args.size c.counting_from.result c.requires c.in_ok-sized.ensures c.counting_from.ensures
