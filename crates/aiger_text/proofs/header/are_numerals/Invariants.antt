use Rattle.std.proofs.Common.{◌≡◌, take, true}
use Rattle.std.specs.Prelude.{map}
use Rattle.std.specs.List.{list_all}
use Rattle.aiger_text.specs.Words.{is_numeral}
use Rattle.aiger_text.proofs.header.are_numerals.Given as goal

abbrev pub invariant-loop-word : goal.invariant-loop-word
invariant-loop-word l = list_all is_numeral (map (λ word. word.now) (take l.word-index l.words)) ≡ true
