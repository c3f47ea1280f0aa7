use Rattle.std.proofs.Common.{◌≡◌, replicate, None}
use Rattle.aiger_text.proofs.symbols.no_names.Given as goal

abbrev pub invariant-loop : goal.invariant-loop
invariant-loop l = l.names.items ≡ replicate l.counter None
