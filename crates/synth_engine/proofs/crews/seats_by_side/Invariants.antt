use Rattle.std.proofs.Common.{◌≡◌, map}
use Rattle.synth_engine.proofs.crews.seats_by_side.Given as goal

abbrev pub invariant-loop-crew : goal.invariant-loop-crew
invariant-loop-crew l = record {
  system : l.system.items ≡ map (λ c. c.system) l.yielded;
  environment : l.environment.items ≡ map (λ c. c.environment) l.yielded;
}
