use Rattle.std.specs.Prelude.{◌≡◌, ℕ, ◌<◌, Bool, false, not, ◌&&◌, ◌||◌, List, [], length, slice_index_or}
use Rattle.std.specs.Bool.{beq}
use Rattle.letters_and_lassos.specs.Word.{Word, lasso_len}
use Rattle.ltl_formula.specs.declared.nodes.Node.{Node}
use Rattle.ltl_formula.specs.Nodes.{tree_at}
use Rattle.ltl_formula.specs.Truth.{holds}
use Rattle.lasso_eval.specs.declared.rows.Pairing.{Pairing}
use Rattle.lasso_eval.specs.declared.rows.Pairing.TheVariants.{And, Or, Implies, Equiv}

-- the truth values that a row holds; there is none past its end, where this is false
abbrev pub row_truth : List Bool → ℕ → Bool
row_truth row i = slice_index_or row i false

-- a row has the truth of f at each of n positions
pub record IsRow (n : ℕ) (f : ℕ → Bool) (row : List Bool) : Type 0 where
  pub len : length row ≡ n
  pub each : (i : ℕ) → i < n → row_truth row i ≡ f i

-- a row for each node of the front of a list of formulas
pub record IsTable (w : Word) (nodes : List Node) (rows : List (List Bool)) : Type 0 where
  pub lens : (k : ℕ) → k < length rows → length (slice_index_or rows k []) ≡ lasso_len w
  pub each : (k : ℕ) → k < length rows → IsRow (lasso_len w) (holds w (tree_at nodes (record { 0 = k }))) (slice_index_or rows k [])

-- a connective of two truth values
abbrev pub paired_truth : Pairing → Bool → Bool → Bool
paired_truth And a b = a && b
paired_truth Or a b = a || b
paired_truth Implies a b = not a || b
paired_truth Equiv a b = beq a b
