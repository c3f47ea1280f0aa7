use Rattle.std.proofs.Common.{◌≡◌, ℕ, ◌≤◌, ◌<◌, [], None}
use Rattle.log_checker.specs.Faults.{follow_fault, answer_at}
use Rattle.log_checker.proofs.hints.first_follow_fault.Given as goal

abbrev pub invariant-loop-i : goal.invariant-loop-i
invariant-loop-i l = record {
  marks : l.marks ≡ record { vars = l.base.vars; trues = [] };
  none : (j : ℕ) → l.from ≤ j → j < l.i → answer_at (follow_fault l.base.clauses.items) l.entries j ≡ None;
}
