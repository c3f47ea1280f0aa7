use Rattle.std.proofs.Common.{◌≡◌, ◌++◌}
use Rattle.annotation_encode.specs.BaseClauses.{each_below}
use Rattle.letter_clauses.specs.BaseClauses.{write_literal}
use Rattle.letter_clauses.proofs.clauses.Encoding.push_write_literals.Given as goal

abbrev pub invariant-loop-signal : goal.invariant-loop-signal
invariant-loop-signal l = l.lits.items ≡ l.fn.lits.items ++ each_below l.signal (λ s. write_literal l.self.size.problem.now l.self.size.letters.now l.cube l.t l.letter s)
