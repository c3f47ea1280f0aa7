use Rattle.std.proofs.Common.{All}
use Rattle.propositional_logic.specs.Clause.{IsWithinVariables}
use Rattle.layer_tests.proofs.clause_texts.formula.Given as goal

abbrev pub invariant-loop-word : goal.invariant-loop-word
invariant-loop-word l = All (IsWithinVariables 12) l.clauses.items
