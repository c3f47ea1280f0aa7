use Rattle.std.proofs.Common.{◌≡◌, ◌+◌, None, drop}
use Rattle.ltl_formula.specs.Nodes.{Grows}
use Rattle.tlsf_values.specs.Patterns.{bits_made}
use Rattle.tlsf_values.proofs.work.Work.bits_made.Given as goal

abbrev pub invariant-loop-i : goal.invariant-loop-i
invariant-loop-i l = (bits_made l.place l.first l.bits None l.fn.self ≡ bits_made l.place (l.first + l.i) (drop l.i l.bits) l.so_far l.self) × Grows l.fn.self.formulas l.self.formulas
