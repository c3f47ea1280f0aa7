use Rattle.std.proofs.Common.{◌≡◌, ◌++◌}
use Rattle.annotation_encode.specs.BaseClauses.{each_below, write_literal}
use Rattle.annotation_encode.proofs.clauses.Encoding.push_write_literals.Given as goal

abbrev pub invariant-loop-signal : goal.invariant-loop-signal
invariant-loop-signal l = l.lits.items ≡ l.fn.lits.items ++ each_below l.signal (λ s. write_literal l.self.numbering.problem.now l.cube l.t l.letter s)
