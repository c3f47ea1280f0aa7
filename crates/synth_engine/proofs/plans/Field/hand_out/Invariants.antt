use Rattle.std.proofs.Common.{◌≡◌, ◌+◌, length}
use Rattle.synth_engine.specs.Hands.{AreRacks}
use Rattle.synth_engine.specs.Plans.{AreWorkersOf}
use Rattle.synth_engine.proofs.plans.Field.hand_out.Given as goal

abbrev pub invariant-loop-number : goal.invariant-loop-number
invariant-loop-number l = record {
  sizes : l.sizes ≡ l.fn.self.sizes;
  count : length l.crews.items + l.number ≡ l.fn.settings.workers + 1;
  system : AreRacks l.number l.fn.self.sizes.system.items l.system.items;
  environment : AreRacks l.number l.fn.self.sizes.environment.items l.environment.items;
  workers : AreWorkersOf l.fn.self.sizes l.fn.settings.workers l.crews.items;
}
