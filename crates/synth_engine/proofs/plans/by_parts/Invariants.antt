use Rattle.std.proofs.Common.{◌≡◌, map}
use Rattle.synth_engine.proofs.plans.by_parts.Given as goal

abbrev pub invariant-loop-size : goal.invariant-loop-size
invariant-loop-size l = record {
  tasks : l.tasks.items ≡ map (λ o. o.task) l.yielded;
  seats : l.seats.items ≡ map (λ o. o.seats) l.yielded;
}
