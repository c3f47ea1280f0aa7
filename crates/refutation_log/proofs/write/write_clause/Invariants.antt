use Rattle.std.proofs.Common.{◌≡◌, ◌++◌, take}
use Rattle.std.specs.List.{flat_map}
use Rattle.refutation_log.specs.Text.{literal_word}
use Rattle.refutation_log.proofs.write.write_clause.Given as goal

abbrev pub invariant-loop-lit : goal.invariant-loop-lit
invariant-loop-lit l = l.out.items ≡ l.initial.out.items ++ flat_map literal_word (take l.lit-index l.lit-items)
