use Rattle.std.proofs.Common.{◌≡◌, ◌+◌, length}
use Rattle.machine_model.specs.declared.problems.Problem.{Problem}
use Rattle.synth_engine.specs.declared.settings.Settings.{Settings}
use Rattle.synth_engine.specs.Tasks.{AreTasks}
use Rattle.synth_engine.specs.Outcomes.{AreSettled}
use Rattle.synth_engine.specs.Settled.{HasItsSeats}
use Rattle.synth_engine.proofs.settling.Unsettled.settle.Given as goal

abbrev pub invariant-loop : goal.invariant-loop
invariant-loop g l = record {
  seats : HasItsSeats l.left;
  left : length l.left.tasks.items + l.counter ≡ length l.fn.self.tasks.items;
  settled : (p : Problem) (settings : Settings) → AreTasks p settings (length l.fn.self.tasks.items) l.fn.self.tasks.items
      → AreTasks p settings (length l.fn.self.tasks.items) l.left.tasks.items × AreSettled p settings l.counter l.logs.items;
}
