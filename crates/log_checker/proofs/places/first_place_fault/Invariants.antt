use Rattle.std.proofs.Common.{◌≡◌, ℕ, ◌≤◌, ◌<◌, None, map, take}
use Rattle.refutation_log.specs.Entry.{clauses_of}
use Rattle.log_checker.specs.Faults.{place_fault, has_end, answer_at}
use Rattle.log_checker.proofs.places.first_place_fault.Given as goal

abbrev pub invariant-loop-i : goal.invariant-loop-i
invariant-loop-i l = record {
  seen : map (λ c. c.now) l.seen.keys ≡ clauses_of (take l.i l.entries);
  ended : has_end (take l.i l.entries) ≡ l.ended;
  none : (j : ℕ) → 0 ≤ j → j < l.i → answer_at (place_fault l.limit) l.entries j ≡ None;
}
