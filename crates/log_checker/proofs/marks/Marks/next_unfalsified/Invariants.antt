use Rattle.std.proofs.Common.{◌≡◌, drop}
use Rattle.propositional_logic.specs.Partial.{unfalsified}
use Rattle.log_checker.proofs.marks.Marks.next_unfalsified.Given as goal

abbrev pub invariant-loop-i : goal.invariant-loop-i
invariant-loop-i l = unfalsified l.self.trues l.lits ≡ unfalsified l.self.trues (drop l.i l.lits)
