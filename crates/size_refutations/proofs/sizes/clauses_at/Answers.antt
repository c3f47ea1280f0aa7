use Rattle.std.proofs.lemmas.Result.{IfOk-weaker}
use Rattle.size_refutations.specs.Parts.{ground_of}
use Rattle.size_refutations.proofs.Lines.{listed_at}
use Rattle.size_refutations.proofs.sizes.clauses_at.Goals as goal

pub returns-clause-clauses : goal.returns-clause-clauses
returns-clause-clauses c =
    IfOk-weaker c.clauses_over.result _ _
    (listed_at (ground_of c.args.sought) c.args.search.now c.args.size c.in_ok-problem.problem c.requires c.in_ok-problem.ensures c.args.letters.now) c.clauses_over.ensures.clauses
