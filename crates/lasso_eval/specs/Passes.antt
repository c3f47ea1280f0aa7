use Rattle.std.specs.Prelude.{◌≡◌, ℕ, ◌<◌, ◌≤◌, ◌==◌, Bool, List, length, if◌then◌else◌}
use Rattle.letters_and_lassos.specs.Word.{Word, lasso_len}
use Rattle.ltl_formula.specs.Truth.{until_at}
use Rattle.lasso_eval.specs.Rows.{row_truth}

-- the position that `high` stands for, where the lasso's end is the ring's beginning
abbrev pub position_of : Word → ℕ → ℕ
position_of w high = if (high == lasso_len w) then length w.stem else high

-- the pass has come down to `high`: the truth there is carried, and the row has it from there on
pub record HasPassed (w : Word) (a b : ℕ → Bool) (high : ℕ) (carry : Bool) (row : List Bool) : Type 0 where
  pub carried : carry ≡ until_at w a b (position_of w high)
  pub len : length row ≡ lasso_len w
  pub each : (k : ℕ) → high ≤ k → k < lasso_len w → row_truth row k ≡ until_at w a b k
