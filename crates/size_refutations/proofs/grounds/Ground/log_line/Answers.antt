use Rattle.std.proofs.Common.{◌≡◌, ap}
use Rattle.solved_text.specs.Parts.{SizeLog}
use Rattle.size_refutations.specs.FirstBad.{no_automaton}
use Rattle.size_refutations.specs.Parts.{ground_of}
use Rattle.size_refutations.proofs.Lines.{has_none}
use Rattle.size_refutations.proofs.grounds.Ground.log_line.Goals as goal

pub returns-in-None : goal.returns-in-None
returns-in-None c =
    let line : c.log.inside.line ≡ c.args.log.now.line = ap (λ (l : SizeLog). l.line) c.log.view_is in
    rw line (no_automaton (has_none (ground_of c.self.inside.sought) c.args.self.now c.self.inside.search c.self.view_is c.self.invariant c.in-None.is))
