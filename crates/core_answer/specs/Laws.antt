-- Laws of the answers of `core` (this project's own).
use Rattle.std.specs.Prelude.{◌≡◌, ℕ, List, Option}
use Rattle.letters_and_lassos.specs.declared.kinds.Kind.{Kind}
use Rattle.machine_model.specs.Machine.{MachineModel}
use Rattle.spec_faults.specs.declared.code.SpecCode.{SpecCode}
use Rattle.satisfaction.specs.Satisfaction.{Satisfies}
use Rattle.synth_engine.specs.declared.settings.Settings.{Settings}
use Rattle.core_answer.specs.Core.{IsCore, IsCoreFault}
use Rattle.core_answer.specs.Over.{IsGroundOver}
use Rattle.text_ground.specs.Ground.{Ground}

-- a text has at most one fault for `core`
abbrev pub CoreFaultsAreDetermined : Type 0
CoreFaultsAreDetermined =
    (text : List ℕ) (kind : Option Kind) (code code' : SpecCode) (place place' : ℕ) → IsCoreFault text kind code place → IsCoreFault text kind code' place'
    → (code ≡ code') × (place ≡ place')

-- no machine, of whatever size, satisfies the text with these guarantees
pub record CannotBeMet (text : List ℕ) (kind : Option Kind) (settings : Settings) (bytes : List ℕ) (core : IsCore text kind settings bytes) : Type 0 where
  pub ground : Ground
  pub is_ground : IsGroundOver text core.told.keep kind ground
  pub none : (m : MachineModel) → Satisfies ground.wanted m → ⊥

abbrev pub CoresCannotBeMet : Type 0
CoresCannotBeMet = (text : List ℕ) (kind : Option Kind) (settings : Settings) (bytes : List ℕ) (core : IsCore text kind settings bytes) → CannotBeMet text kind settings bytes core
