use Rattle.std.proofs.Common.{sym, ◌∙◌}
use Rattle.size_refutations.specs.Parts.{ground_of}
use Rattle.size_refutations.proofs.Lines.{counted, not_counted, size_counted}
use Rattle.size_refutations.proofs.sizes.count_over.Goals as goal

pub returns-then-not-may_be_counted : goal.returns-then-not-may_be_counted
returns-then-not-may_be_counted c = not_counted c.args.problem.now c.args.letters.now (sym c.may_be_counted.ensures ∙ c.if-not-may_be_counted.true)

pub count-requires : goal.count-requires
count-requires c =
    size_counted (ground_of c.args.sought) c.args.search.now c.args.problem.now c.requires.search c.requires.sized c.args.letters.now
    (sym c.may_be_counted.ensures ∙ c.if-not-may_be_counted.false)

pub returns : goal.returns
returns c = c.count.ensures ∙ counted c.args.problem.now c.args.letters.now (sym c.may_be_counted.ensures ∙ c.if-not-may_be_counted.false)
