use Rattle.std.proofs.Common.{◌≡◌, ◌++◌, ◌∷◌, [], drop, length}
use Rattle.refutation_log.specs.Entry.{clauses_of}
use Rattle.log_checker.specs.Faults.{hints_fault}
use Rattle.log_checker.proofs.hints.hints_fault.Given as goal

abbrev pub invariant-loop-number : goal.invariant-loop-number
invariant-loop-number l = record {
  vars : l.marks.vars ≡ l.initial.marks.vars;
  so_far : hints_fault (length l.before) (l.base.clauses.items ++ clauses_of l.before) l.initial.marks.trues l.hints
      ≡ hints_fault (length l.before) (l.base.clauses.items ++ clauses_of l.before) l.marks.trues (drop l.number-index l.others ++ l.last ∷ []);
}
