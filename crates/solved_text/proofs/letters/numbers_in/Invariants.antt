use Rattle.std.proofs.Common.{◌≡◌, length}
use Rattle.solved_text.specs.Logs.{numbers_from, numbers_in, parts_of}
use Rattle.solved_text.proofs.letters.numbers_in.Given as goal

abbrev pub invariant-loop-part : goal.invariant-loop-part
invariant-loop-part l = numbers_from l.numbers.items l.least (parts_of l.rest) ≡ numbers_in l.word

abbrev pub decreases-loop-part : goal.decreases-loop-part
decreases-loop-part l = length l.rest
