use Rattle.std.proofs.Common.{◌≡◌, ℕ, ◌<◌, length, get_or}
use Rattle.machine_model.specs.Named.{IsLeastBelow, lead_both_ways}
use Rattle.machine_model.proofs.names.names_by_sets.Given as goal

abbrev pub invariant-loop-q : goal.invariant-loop-q
invariant-loop-q l = record {
  places : length l.names.items ≡ l.q;
  at : (p : ℕ) → p < l.q → IsLeastBelow (lead_both_ways l.sets.items p) p (get_or l.names.items p 0);
}
