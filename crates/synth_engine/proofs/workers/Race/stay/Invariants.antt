use Rattle.std.proofs.Common.{◌≡◌}
use Rattle.synth_engine.specs.Tasks.{IsCrewOf}
use Rattle.synth_engine.proofs.workers.Race.stay.Given as goal

abbrev pub invariant-loop : goal.invariant-loop
invariant-loop g l = record { crew : IsCrewOf l.self.sizes.now l.crew; number : l.crew.number ≡ l.fn.crew.number }
