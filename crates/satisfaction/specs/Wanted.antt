-- What a text asks of machines, however it is written (this project's own).
use Rattle.std.specs.Prelude.{◌≡◌, ℕ, Bool, List}
use Rattle.letters_and_lassos.specs.declared.kinds.Kind.{Kind}
use Rattle.letters_and_lassos.specs.Word.{Word}
use Rattle.ltl_formula.specs.Tree.{Tree}
use Rattle.ltl_formula.specs.Truth.{holds}

-- the names of the inputs and of the outputs, the kind of the system's machines, and what is true on which lassos
pub record Wanted : Type 0 where
  pub inputs : List (List ℕ)
  pub outputs : List (List ℕ)
  pub kind : Kind
  pub means : Word → Bool

-- on every lasso the formula holds exactly where what is wanted is true
pub record Says (f : Tree) (x : Wanted) : Type 0 where
  pub same : (w : Word) → holds w f 0 ≡ x.means w
