use Rattle.size_refutations.specs.Sizes.{no_automaton, no_clauses}
use Rattle.size_refutations.specs.Parts.{ground_of}
use Rattle.size_refutations.proofs.Lines.{has_none}
use Rattle.size_refutations.proofs.grounds.Ground.encoded.Goals as goal

pub returns-in-None-clause-clauses : goal.returns-in-None-clause-clauses
returns-in-None-clause-clauses c =
    no_clauses (no_automaton (has_none (ground_of c.self.inside.sought) c.args.self.now c.self.inside.search c.self.view_is c.self.invariant c.in-None.is))
