use Rattle.std.proofs.Common.{take}
use Rattle.std.specs.Prelude.{All}
use Rattle.machine_model.specs.Problem.{NamesSignals}
use Rattle.size_refutations.proofs.grounds.names_signals.Given as goal

-- no edge so far names another signal
abbrev pub invariant-loop-edge : goal.invariant-loop-edge
invariant-loop-edge l = All (NamesSignals l.signals) (take l.edge-index l.edges)
