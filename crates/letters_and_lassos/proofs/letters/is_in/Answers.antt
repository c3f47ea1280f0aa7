use Rattle.std.proofs.Common.{sym, ◌∙◌, arith}
use Rattle.std.proofs.lemmas.Bool.{le-ltb, false_from_ne_true}
use Rattle.letters_and_lassos.specs.Signals.{has}
use Rattle.letters_and_lassos.proofs.Sets.{has-past}
use Rattle.letters_and_lassos.proofs.letters.is_in.Goals as goal

-- A signal from 64 on is in no set.
pub returns-else-signal-lt-BITS : goal.returns-else-signal-lt-BITS
returns-else-signal-lt-BITS c =
    le-ltb c.args.signal 64 (omega arith)
    ∙ sym (false_from_ne_true (has c.args.signals c.args.signal)
    (has-past c.args.signals c.args.signal 64 c.ranges.signals.fits (omega arith)))
