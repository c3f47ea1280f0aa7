use Rattle.std.proofs.Common.{sym, ◌∙◌}
use Rattle.aiger_text.specs.Statements.{stated}
use Rattle.aiger_text.proofs.SoundLemmas.{sound_gate}
use Rattle.aiger_text.proofs.bodies.Statements.take_gate.Goals as goal

pub returns-clause-sound : goal.returns-clause-sound
returns-clause-sound c = rw c.in_ok-push.ensures.items (sound_gate (stated c.args.self.now) c.requires.sound c.in-Some.gate c.in-Some.ensures.own (sym c.is_defined.ensures ∙ c.if-is_defined.false) c.requires.room)
