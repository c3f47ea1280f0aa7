use Rattle.std.proofs.Common.{◌≡◌, [], length}
use Rattle.refutation_log.specs.Read.{StatesEntries}
use Rattle.refutation_log.proofs.read.read_log.Given as goal

abbrev pub invariant-loop-n : goal.invariant-loop-n
invariant-loop-n l =
    StatesEntries l.vars l.lines l.entries.items l.rest × (length l.entries.items ≡ l.n) × (l.lines ≡ [] → (l.rest ≡ []) × (l.n ≡ 0))
