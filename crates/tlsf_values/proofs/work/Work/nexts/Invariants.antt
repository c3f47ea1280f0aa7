use Rattle.std.proofs.Common.{◌≡◌}
use Rattle.ltl_formula.specs.Nodes.{Grows}
use Rattle.tlsf_values.specs.Counts.{nexts}
use Rattle.tlsf_values.proofs.work.Work.nexts.Given as goal

abbrev pub invariant-loop-left : goal.invariant-loop-left
invariant-loop-left l = (nexts l.place l.fn.count l.fn.part l.fn.self ≡ nexts l.place l.left l.id l.self) × Grows l.fn.self.formulas l.self.formulas

abbrev pub decreases-loop-left : goal.decreases-loop-left
decreases-loop-left l = l.left
