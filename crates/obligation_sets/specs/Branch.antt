use Rattle.std.specs.Prelude.{Bool, List}
use Rattle.letters_and_lassos.specs.declared.cubes.Cube.{Cube}
use Rattle.ltl_formula.specs.declared.nodes.FormulaId.{FormulaId}

-- one way to meet obligations: what is still to be met at this position, first things first; what was taken off that
-- list; what the letter must be; what is left to the next position; the untils that were put off (bounded synthesis
-- of Finkbeiner and Schewe; the order is this project's own)
pub record Branch : Type 0 where
  pub work : List FormulaId
  pub done : List Bool
  pub cube : Cube
  pub next : List Bool
  pub postponed : List Bool
