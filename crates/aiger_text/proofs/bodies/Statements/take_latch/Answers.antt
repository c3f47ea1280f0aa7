use Rattle.std.proofs.Common.{sym, ◌∙◌}
use Rattle.aiger_text.specs.Statements.{stated}
use Rattle.aiger_text.proofs.SoundLemmas.{sound_latch}
use Rattle.aiger_text.proofs.bodies.Statements.take_latch.Goals as goal

pub returns-clause-sound : goal.returns-clause-sound
returns-clause-sound c = rw c.in_ok-push.ensures.items (sound_latch (stated c.args.self.now) c.requires.sound c.in-Ok.latch c.in-Ok.ensures.own (sym c.is_defined.ensures ∙ c.if-is_defined.false) c.requires.room)
