use Rattle.std.proofs.Common.{◌≡◌, drop, map}
use Rattle.propositional_logic.specs.Literal.{negated}
use Rattle.log_checker.proofs.marks.Marks.oppose.Given as goal

abbrev pub invariant-loop-i : goal.invariant-loop-i
invariant-loop-i l = l.self ≡ record { vars = l.initial.self.vars; trues = map negated (drop l.i l.lits) }
