use Rattle.std.proofs.Common.{◌≡◌, ℕ, ◌+◌, ◌*◌, ◌≤◌, length, get_or, take}
use Rattle.std.specs.Prelude.{sum}
use Rattle.text_limits.specs.declared.TheConstants.{LARGE_LIMITS}
use Rattle.machine_model.proofs.components.sums.Given as goal

abbrev pub invariant-loop-count : goal.invariant-loop-count
invariant-loop-count l = record {
  places : length l.sums.items ≡ l.count-index + 1;
  at : (k : ℕ) → k ≤ l.count-index → get_or l.sums.items k 0 ≡ sum (take k l.counts);
  here : l.sum ≡ sum (take l.count-index l.counts);
  small : l.sum ≤ LARGE_LIMITS.automaton.states * l.count-index;
}
