use Rattle.std.proofs.Common.{◌≡◌, length}
use Rattle.letters_and_lassos.specs.Word.{no_signals}
use Rattle.lasso_word.specs.Lines.{parts_at}
use Rattle.lasso_word.specs.WordText.{with_all_named}
use Rattle.lasso_word.proofs.letters.all_named.Given as goal

abbrev pub invariant-loop-name : goal.invariant-loop-name
invariant-loop-name l =
    with_all_named l.names (parts_at 32 l.rest) l.letter ≡ with_all_named l.names (parts_at 32 l.initial.rest) no_signals

abbrev pub decreases-loop-name : goal.decreases-loop-name
decreases-loop-name l = length l.rest
