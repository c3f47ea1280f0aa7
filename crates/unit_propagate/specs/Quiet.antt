use Rattle.std.specs.Prelude.{◌≡◌, false, None, List, Contains}
use Rattle.propositional_logic.specs.Literal.{Literal}
use Rattle.propositional_logic.specs.Partial.{is_falsified, unit_of}

-- A partial assignment is quiet over a list of clauses: none of them is falsified, and none is unit (unit propagation).
pub record IsQuiet (clauses : List (List Literal)) (trues : List Literal) : Type 0 where
  pub not_falsified : (c : List Literal) → Contains clauses c → is_falsified trues c ≡ false
  pub not_unit : (c : List Literal) → Contains clauses c → unit_of trues c ≡ None
