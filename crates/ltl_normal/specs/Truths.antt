use Rattle.std.specs.Prelude.{◌≡◌, ℕ, ◌<◌, not}
use Rattle.letters_and_lassos.specs.Word.{Word, HasRing, lasso_len}
use Rattle.ltl_formula.specs.Tree.{Tree}
use Rattle.ltl_formula.specs.Truth.{holds}

-- g is true exactly where f is, at every position of every lasso
pub record HasTruthOf (f g : Tree) : Type 0 where
  pub same : (w : Word) (i : ℕ) → HasRing w → i < lasso_len w → holds w g i ≡ holds w f i

-- g is true exactly where f isn't
pub record OpposesTruthOf (f g : Tree) : Type 0 where
  pub opposite : (w : Word) (i : ℕ) → HasRing w → i < lasso_len w → holds w g i ≡ not (holds w f i)
