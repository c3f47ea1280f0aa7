use Rattle.size_refutations.specs.Sizes.{no_automaton}
use Rattle.size_refutations.specs.Parts.{ground_of}
use Rattle.size_refutations.proofs.Lines.{has_none}
use Rattle.size_refutations.proofs.grounds.Ground.count.Goals as goal

pub returns-in-None : goal.returns-in-None
returns-in-None c =
    no_automaton (has_none (ground_of c.self.inside.sought) c.args.self.now c.self.inside.search c.self.view_is c.self.invariant c.in-None.is)
