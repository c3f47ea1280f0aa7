use Rattle.std.proofs.Common.{arith}
use Rattle.letter_clauses.proofs.clauses.Encoding.push_count_literals.Goals as goal

pub number_after-after-requires-clause-number : goal.number_after-after-requires-clause-number
number_after-after-requires-clause-number c = omega (arith, c.var_count-left.ensures.value, c.var_count-left.ensures.small)
