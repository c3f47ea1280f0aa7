use Rattle.std.proofs.Common.{rules}
use Rattle.size_refutations.specs.Parts.{ground_of}
use Rattle.size_refutations.proofs.Lines.{size_allowed}
use Rattle.size_refutations.proofs.sizes.clauses_over.Goals as goal

pub encode-requires-clause-size : goal.encode-requires-clause-size
encode-requires-clause-size c =
    size_allowed (ground_of c.args.sought) c.args.search.now c.args.problem.now c.requires.search c.requires.sized c.args.letters.now c.count_over.result c.count_over.ensures
    (search rules)
