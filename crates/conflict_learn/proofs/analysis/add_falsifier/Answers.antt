use Rattle.conflict_learn.proofs.StepLemmas.{AddsFalsifier-gains}
use Rattle.conflict_learn.proofs.analysis.add_falsifier.Goals as goal

pub returns-clause-ok : goal.returns-clause-ok
returns-clause-ok c =
    let m = c.in-Some.ensures.some in
    AddsFalsifier-gains c.args.trail.now.marks c.args.places.now c.add.new.self c.args.lit c.in-Some.place m.0 m.1 m.2 c.in_ok-add.ensures.ok
