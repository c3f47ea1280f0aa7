use Rattle.std.specs.Prelude.{◌≤◌}
use Rattle.text_limits.specs.declared.TheConstants.{SMALL_LIMITS}
use Rattle.machine_model.specs.Machine.{MachineModel, size_of}

-- a machine of few states and signals, so that its circuit has few variables (limits of this project)
pub record IsSmallMachine (m : MachineModel) : Type 0 where
  pub states : size_of m ≤ SMALL_LIMITS.machine
  pub reads : m.reads ≤ SMALL_LIMITS.signals
  pub writes : m.writes ≤ SMALL_LIMITS.signals
