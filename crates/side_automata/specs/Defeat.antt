use Rattle.std.specs.Prelude.{◌≡◌, Bool, false}
use Rattle.letters_and_lassos.specs.declared.kinds.Side.{Side}
use Rattle.letters_and_lassos.specs.Word.{Word}
use Rattle.ltl_formula.specs.Tree.{Tree}
use Rattle.ltl_formula.specs.Truth.{holds}
use Rattle.machine_model.specs.Machine.{MachineModel, IsMachine}
use Rattle.machine_model.specs.Run.{ArePartners, IsPlay, IsRun}

-- on each run lasso of a machine that plays this side, the formula has this truth: a machine of the system satisfies the
-- formula where this is so with `true` (bounded synthesis of Finkbeiner and Schewe)
pub record EachRunMakes (truth : Bool) (f : Tree) (side : Side) (m : MachineModel) : Type 0 where
  pub runs : (w : Word) → IsRun m side w → holds w f 0 ≡ truth

-- a machine of the environment defeats all of the system at a formula: each machine of any size that can play against it,
-- so one of the other kind that reads what it writes and writes what it reads, has a play with it, and each play makes
-- the formula false (the duality of Mealy and Moore machines)
pub record DefeatsAll (f : Tree) (environment : MachineModel) : Type 0 where
  pub plays : (system : MachineModel) → IsMachine system → ArePartners system environment → (w : Word) × IsPlay system environment w
  pub loses : (system : MachineModel) (w : Word) → IsMachine system → ArePartners system environment → IsPlay system environment w → holds w f 0 ≡ false
