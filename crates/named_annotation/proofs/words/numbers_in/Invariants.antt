use Rattle.std.proofs.Common.{◌≡◌, length}
use Rattle.named_annotation.specs.NamedText.{numbers_from, numbers_in, words_of}
use Rattle.named_annotation.proofs.words.numbers_in.Given as goal

abbrev pub invariant-loop-word : goal.invariant-loop-word
invariant-loop-word l = numbers_from l.numbers.items (words_of l.rest) ≡ numbers_in l.line

abbrev pub decreases-loop-word : goal.decreases-loop-word
decreases-loop-word l = length l.rest
