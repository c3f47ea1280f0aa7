use Rattle.std.proofs.Common.{◌≡◌, ◌++◌, take}
use Rattle.std.specs.List.{flat_map}
use Rattle.refutation_log.specs.Text.{hint_word}
use Rattle.refutation_log.proofs.write.write_hints.Given as goal

abbrev pub invariant-loop-hint : goal.invariant-loop-hint
invariant-loop-hint l = l.out.items ≡ l.initial.out.items ++ flat_map hint_word (take l.hint-index l.hint-items)
