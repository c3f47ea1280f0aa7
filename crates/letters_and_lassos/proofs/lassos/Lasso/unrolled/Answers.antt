use Rattle.std.proofs.Common.{arith}
use Rattle.std.proofs.lemmas.Grind.{common_steps}
use Rattle.letters_and_lassos.proofs.Unrolled.{SameWord-at}
use Rattle.letters_and_lassos.proofs.lassos.Lasso.unrolled.Goals as goal

pub returns-clause-same_word : goal.returns-clause-same_word
returns-clause-same_word c =
    SameWord-at (record { stem = c.extend_from_slice-2.new.self.items; ring = c.in_ok-from_slice.field-0.items }) c.args.self.now
    (grind (arith, common_steps))
    c.len.ensures.ring
