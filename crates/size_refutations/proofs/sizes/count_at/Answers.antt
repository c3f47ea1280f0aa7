use Rattle.size_refutations.specs.Parts.{ground_of}
use Rattle.size_refutations.proofs.Lines.{count_is}
use Rattle.size_refutations.proofs.sizes.count_at.Goals as goal

pub returns : goal.returns
returns c =
    count_is (ground_of c.args.sought) c.args.search.now c.args.size c.in_ok-problem.problem c.requires c.in_ok-problem.ensures c.args.letters.now
    c.count_over-count.result c.count_over-count.ensures
