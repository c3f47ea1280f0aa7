use Rattle.std.proofs.Common.{Err, ap}
use Rattle.tlsf_expand.specs.FlatText.{spec_seen}
use Rattle.spec_problems.specs.OfText.{of_problems, of_text}
use Rattle.spec_problems.proofs.Refusals.{same_fault}
use Rattle.spec_problems.proofs.Whole.{accept_later, says_what}
use Rattle.spec_problems.proofs.texts.text_problems.Goals as goal

pub returns-in-Err-clause-fault : goal.returns-in-Err-clause-fault
returns-in-Err-clause-fault c = λ code place e. of_text code place (c.in-Err.ensures.fault code place (ap Err (same_fault _ _ e)))

pub returns-in-Ok-problems_of-clause-accept : goal.returns-in-Ok-problems_of-clause-accept
returns-in-Ok-problems_of-clause-accept c =
    accept_later c.args.text.now c.args.kind (spec_seen c.in-Ok.spec) c.in-Ok.ensures.flat c.problems_of.new.formulas c.problems_of.ensures.grows c.in-Ok-problems_of.problems c.in-Ok-problems_of.ensures.accept

pub returns-in-Ok-problems_of-clause-means : goal.returns-in-Ok-problems_of-clause-means
returns-in-Ok-problems_of-clause-means c = says_what c.args.text.now c.args.kind (spec_seen c.in-Ok.spec) c.in-Ok.ensures.flat c.problems_of.new.formulas c.problems_of.ensures.grows

pub returns-in-Err-problems_of-clause-fault : goal.returns-in-Err-problems_of-clause-fault
returns-in-Err-problems_of-clause-fault c = λ code place e.
    of_problems (spec_seen c.in-Ok.spec) code place c.in-Ok.ensures.flat (c.in-Err-problems_of.ensures.fault code place (ap Err (same_fault _ _ e)))
