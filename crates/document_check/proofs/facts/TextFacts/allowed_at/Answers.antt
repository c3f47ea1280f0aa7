use Rattle.std.proofs.Common.{◌∙◌}
use Rattle.document_check.specs.Shown.{facts_of}
use Rattle.document_check.proofs.ProblemLemmas.{allowed_is}
use Rattle.document_check.proofs.facts.TextFacts.allowed_at.Goals as goal

pub returns-in-Some-clause-value : goal.returns-in-Some-clause-value
returns-in-Some-clause-value c =
    c.allowed_sizes.ensures.value
    ∙ allowed_is (facts_of c.args.self) c.args.kind c.args.version c.args.max c.args.side c.in-Some.problem (rw c.in-Some.is at c.in_ok-problem.ensures.same)
