use Rattle.std.proofs.Common.{drop}
use Rattle.propositional_logic.specs.Clause.{IsRisingFrom, IsClause}
use Rattle.propositional_logic.proofs.clauses.is_rising.Given as goal

-- where the rest rises from the last variable seen, all of them rise
abbrev pub invariant-loop-lit : goal.invariant-loop-lit
invariant-loop-lit l = IsRisingFrom l.last (drop l.lit-index l.lits) → IsClause l.lits
