use Rattle.std.proofs.Common.{◌≡◌, drop}
use Rattle.tlsf_values.specs.EnvSeen.{buses_named}
use Rattle.tlsf_values.specs.NamesSeen.{names_seen}
use Rattle.tlsf_values.proofs.names.Names.add_buses.Given as goal

abbrev pub invariant-loop-bus : goal.invariant-loop-bus
invariant-loop-bus l = buses_named (names_seen l.fn.self) l.buses ≡ buses_named (names_seen l.self) (drop l.bus-index l.buses)
