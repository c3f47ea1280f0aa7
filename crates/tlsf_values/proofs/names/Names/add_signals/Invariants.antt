use Rattle.std.proofs.Common.{◌≡◌, drop}
use Rattle.tlsf_values.specs.EnvSeen.{signals_named}
use Rattle.tlsf_values.specs.NamesSeen.{names_seen}
use Rattle.tlsf_values.proofs.names.Names.add_signals.Given as goal

abbrev pub invariant-loop-signal : goal.invariant-loop-signal
invariant-loop-signal l = signals_named (names_seen l.fn.self) l.signals ≡ signals_named (names_seen l.self) (drop l.signal-index l.signals)
