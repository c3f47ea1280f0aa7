use Rattle.std.specs.Prelude.{◌≡◌, ℕ, ◌+◌, ◌*◌, ◌≤◌, Bool, false, nat_eq, List, All, map, length, slice_index_or}
use Rattle.std.specs.List.{list_any}
use Rattle.propositional_logic.specs.Literal.{Literal}
use Rattle.propositional_logic.specs.Codes.{code_of}

-- The literals that are true, over the variables 1 to vars: a partial assignment as the checker keeps it, the latest first.
pub record Trues : Type 0 where
  pub vars : ℕ
  pub trues : List Literal

-- A table has a place for each literal over the variables 1 to vars, and exactly those of the true literals are marked.
pub record IsMarked (vars : ℕ) (table : List Bool) (trues : List Literal) : Type 0 where
  pub size : length table ≡ 2 * vars + 2
  pub within : All (λ l. l.var ≤ vars) trues
  pub marked : (k : ℕ) → slice_index_or table k false ≡ list_any (nat_eq k) (map code_of trues)
