use Rattle.std.proofs.Common.{◌≡◌, ◌++◌, take}
use Rattle.refutation_log.specs.Text.{log_text}
use Rattle.refutation_log.proofs.write.push_log.Given as goal

abbrev pub invariant-loop-i : goal.invariant-loop-i
invariant-loop-i l = l.out.items ≡ l.initial.out.items ++ log_text (take l.i l.log.entries)
