use Rattle.std.proofs.Common.{◌↔◌, Contains, take}
use Rattle.propositional_logic.specs.Literal.{Literal}
use Rattle.propositional_logic.specs.Clause.{IsClause}
use Rattle.propositional_logic.proofs.clauses.without_repeats.Given as goal

-- the literals so far, in the written order
abbrev pub invariant-loop-lit : goal.invariant-loop-lit
invariant-loop-lit l = record {
  sorted : IsClause l.kept.items;
  same_literals : (m : Literal) → Contains l.kept.items m ↔ Contains (take l.lit-index l.sorted) m;
}
