use Rattle.aiger_text.specs.Statements.{stated}
use Rattle.aiger_text.proofs.SoundLemmas.{sound_output}
use Rattle.aiger_text.proofs.bodies.Statements.take_output.Goals as goal

pub returns-clause-sound : goal.returns-clause-sound
returns-clause-sound c = rw c.in_ok-push.ensures.items (sound_output (stated c.args.self.now) c.requires.sound c.in-Some.literal c.in-Some.ensures.within)
