use Rattle.std.proofs.Common.{◌≡◌, ◌++◌, take}
use Rattle.refutation_log.specs.Text.{log_text}
use Rattle.refutation_log.proofs.write.push_entries.Given as goal

abbrev pub invariant-loop-entry : goal.invariant-loop-entry
invariant-loop-entry l = l.out.items ≡ l.initial.out.items ++ log_text (take l.entry-index l.entries)
