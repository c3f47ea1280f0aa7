use Rattle.std.proofs.Common.{◌≡◌, true, List, All, take}
use Rattle.propositional_logic.specs.Literal.{Literal}
use Rattle.propositional_logic.specs.Truth.{is_true_clause}
use Rattle.clause_solver.proofs.models.model_of.Given as goal

abbrev pub invariant-loop-clause : goal.invariant-loop-clause
invariant-loop-clause l = All (λ (c : List Literal). is_true_clause l.values.items c ≡ true) (take l.clause-index l.clause-items)
