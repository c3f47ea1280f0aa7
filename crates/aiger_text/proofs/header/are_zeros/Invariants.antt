use Rattle.std.proofs.Common.{◌≡◌, take, true}
use Rattle.std.specs.Prelude.{map, ◌==◌}
use Rattle.std.specs.List.{list_all}
use Rattle.names_and_numbers.specs.Numerals.{decimal_value}
use Rattle.aiger_text.proofs.header.are_zeros.Given as goal

abbrev pub invariant-loop-word : goal.invariant-loop-word
invariant-loop-word l = list_all (λ n. n == 0) (map decimal_value (map (λ word. word.now) (take l.word-index l.words))) ≡ true
