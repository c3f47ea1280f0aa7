use Rattle.std.proofs.Common.{◌≡◌, ℕ, ◌+◌, ◌-◌, length}
use Rattle.std.specs.Prelude.{Some, slice_get}
use Rattle.machine_model.specs.Problem.{parts_of, sized}
use Rattle.machine_model.specs.declared.problems.Problem.{Problem}
use Rattle.synth_engine.proofs.plans.problems_down.Given as goal

abbrev pub invariant-loop-fewer : goal.invariant-loop-fewer
invariant-loop-fewer l = record {
  count : length l.problems.items + l.fewer ≡ l.count;
  each : (k : ℕ) (q : Problem) → slice_get l.problems.items k ≡ Some q → parts_of q ≡ parts_of (sized l.problem (l.count - k));
}
