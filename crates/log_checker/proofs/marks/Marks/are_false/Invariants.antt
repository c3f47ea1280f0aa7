use Rattle.std.proofs.Common.{◌≡◌, drop}
use Rattle.propositional_logic.specs.Partial.{is_falsified}
use Rattle.log_checker.proofs.marks.Marks.are_false.Given as goal

abbrev pub invariant-loop-lit : goal.invariant-loop-lit
invariant-loop-lit l = is_falsified l.self.trues l.lits ≡ is_falsified l.self.trues (drop l.lit-index l.lits)
