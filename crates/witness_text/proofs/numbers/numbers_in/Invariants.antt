use Rattle.std.proofs.Common.{◌≡◌, length}
use Rattle.witness_text.specs.Forms.{numbers_from, numbers_in, words_in}
use Rattle.witness_text.proofs.numbers.numbers_in.Given as goal

abbrev pub invariant-loop-word : goal.invariant-loop-word
invariant-loop-word l = numbers_from l.numbers.items (words_in l.rest) ≡ numbers_in l.text

abbrev pub decreases-loop-word : goal.decreases-loop-word
decreases-loop-word l = length l.rest
