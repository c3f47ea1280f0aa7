use Rattle.std.proofs.Common.{◌≡◌, ℕ, ◌<◌, ◌≤◌, cond, length, get_or}
use Rattle.machine_model.specs.Components.{are_joined}
use Rattle.machine_model.proofs.names.name_component.Given as goal

abbrev pub invariant-loop-r : goal.invariant-loop-r
invariant-loop-r l = record {
  places : length l.names ≡ length l.fn.names;
  named : (s : ℕ) → s < l.r → get_or l.names s 0 ≡ cond (are_joined l.automaton l.q s) l.q (get_or l.fn.names s 0);
  left : (s : ℕ) → l.r ≤ s → get_or l.names s 0 ≡ get_or l.fn.names s 0;
}
