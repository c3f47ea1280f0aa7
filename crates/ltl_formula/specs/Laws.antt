use Rattle.std.specs.Prelude.{◌≡◌, ◌↔◌, ℕ, ◌<◌, Bool, true, ◌&&◌, ◌||◌, IsTrue, List}
use Rattle.letters_and_lassos.specs.Word.{Word, HasRing, SameWord, SameFuture, lasso_len, next, after, unrolled_times}
use Rattle.ltl_formula.specs.declared.nodes.FormulaId.{FormulaId}
use Rattle.ltl_formula.specs.declared.nodes.Node.{Node}
use Rattle.ltl_formula.specs.Tree.{Tree, SignalsBelow}
use Rattle.ltl_formula.specs.declared.nodes.TheConstants.{MAX_SIGNALS}
use Rattle.ltl_formula.specs.Tree.Tree.{finally, globally, until, release}
use Rattle.ltl_formula.specs.Truth.{holds}
use Rattle.ltl_formula.specs.Nodes.{IsNodeList, Grows, IsNodeIn, tree_at}

-- b comes j steps after position i, and a holds at each position before
pub record ComesAt (w : Word) (a b : ℕ → Bool) (i j : ℕ) : Type 0 where
  pub comes : b (after w i j) ≡ true
  pub before : (k : ℕ) → k < j → a (after w i k) ≡ true

-- b comes at some time, however late, and a holds until then
abbrev pub Comes : Word → (ℕ → Bool) → (ℕ → Bool) → ℕ → Type 0
Comes w a b i = (j : ℕ) × ComesAt w a b i j

-- the operators mean what they mean on the infinite word, without a bound on the steps
pub record OperatorsMean : Type 0 where
  pub until_means : (w : Word) (a b : Tree) (i : ℕ) → HasRing w → i < lasso_len w → IsTrue (holds w (until a b) i) ↔ Comes w (holds w a) (holds w b) i
  pub finally_means : (w : Word) (a : Tree) (i : ℕ) → HasRing w → i < lasso_len w → IsTrue (holds w (finally a) i) ↔ ((j : ℕ) × IsTrue (holds w a (after w i j)))
  pub globally_means : (w : Word) (a : Tree) (i : ℕ) → HasRing w → i < lasso_len w → IsTrue (holds w (globally a) i) ↔ ((j : ℕ) → IsTrue (holds w a (after w i j)))

-- until and release at a position go by the position and the next
pub record OperatorsUnfold : Type 0 where
  pub until_unfolds : (w : Word) (a b : Tree) (i : ℕ) → HasRing w → i < lasso_len w → holds w (until a b) i ≡ (holds w b i || (holds w a i && holds w (until a b) (next w i)))
  pub release_unfolds : (w : Word) (a b : Tree) (i : ℕ) → HasRing w → i < lasso_len w → holds w (release a b) i ≡ (holds w b i && (holds w a i || holds w (release a b) (next w i)))

-- truth at a position depends on its future alone, so a formula says the same of one word however it is written
pub record TruthIsOfTheFuture : Type 0 where
  pub future : (v w : Word) (i k : ℕ) → HasRing v → HasRing w → i < lasso_len v → k < lasso_len w → SameFuture v i w k → (f : Tree) → holds v f i ≡ holds w f k
  pub word : (v w : Word) → HasRing v → HasRing w → SameWord v w → (f : Tree) → holds v f 0 ≡ holds w f 0
  pub unrolled : (n : ℕ) (w : Word) → HasRing w → (f : Tree) → holds (unrolled_times n w) f 0 ≡ holds w f 0

-- a growing list changes the formula of no id that stood
abbrev pub GrowingKeepsFormulas : Type 0
GrowingKeepsFormulas = (old new : List Node) (id : FormulaId) → Grows old new → IsNodeIn old id → tree_at new id ≡ tree_at old id

-- a list has one id for a formula
abbrev pub OneIdPerFormula : Type 0
OneIdPerFormula = (nodes : List Node) (a b : FormulaId) → IsNodeList nodes → IsNodeIn nodes a → IsNodeIn nodes b → tree_at nodes a ≡ tree_at nodes b → a ≡ b

-- the formulas of a list speak of signals below 32 alone
abbrev pub SignalsAreBelow : Type 0
SignalsAreBelow = (nodes : List Node) (id : FormulaId) → IsNodeList nodes → IsNodeIn nodes id → SignalsBelow MAX_SIGNALS (tree_at nodes id)
