-- What is kept of the clauses that obligations share (this project's own).
use Rattle.std.specs.Prelude.{◌≡◌, List, ◌++◌, length}
use Rattle.propositional_logic.specs.Literal.{Literal}
use Rattle.truth_witness.specs.Clauses.{base_clauses}
use Rattle.truth_witness.specs.Witness.{Claim}
use Rattle.truth_witness.specs.Obligations.{at_start, in_step}
use Rattle.witness_check.specs.declared.bases.Base.{Base}
use Rattle.witness_check.specs.declared.bases.Bases.{Bases}

-- the clauses that are shared stand first, and their number is known
pub record IsKept (shared : List (List Literal)) (b : Base) : Type 0 where
  pub more : List (List Literal)
  pub listed : b.cnf.clauses.items ≡ shared ++ more
  pub count : b.shared ≡ length shared

pub record AreKept (x : Claim) (b : Bases) : Type 0 where
  pub start : IsKept (base_clauses (at_start x)) b.start
  pub step : IsKept (base_clauses (in_step x)) b.step
