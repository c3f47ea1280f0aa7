-- Faults are determined, and what is told can't be met.
use Rattle.std.proofs.Common.{◌≡◌, ℕ, Bool, true, false, List, Option, refl, sym, ◌∙◌}
use Rattle.letters_and_lassos.specs.declared.kinds.Kind.{Kind}
use Rattle.letters_and_lassos.specs.declared.kinds.Side.{Side}
use Rattle.letters_and_lassos.specs.declared.kinds.Side.TheVariants.{System, Environment}
use Rattle.machine_model.specs.Machine.{MachineModel}
use Rattle.aiger_text.specs.Circuit.{Circuit}
use Rattle.spec_faults.specs.declared.code.SpecCode.{SpecCode}
use Rattle.satisfaction.specs.Satisfaction.{CircuitDefeats, Satisfies}
use Rattle.satisfaction.specs.Wanted.{Wanted}
use Rattle.spec_problems.proofs.OneAnswer.{texts_are_determined}
use Rattle.synth_engine.specs.declared.settings.Settings.{Settings}
use Rattle.synth_answer.specs.Answer.{AnswersFor, DoesItsPart, bounded, defeats, is_environment, no_entries, no_size, realizable, refused, unrealizable}
use Rattle.text_ground.specs.Ground.{Ground}
use Rattle.core_answer.specs.Core.{IsCoreFault, of_text, too_many}
use Rattle.core_answer.specs.Laws.{CoreFaultsAreDetermined, CoresCannotBeMet}
use Rattle.core_answer.specs.Over.{IsFaultOver, IsGroundOver}

one_core_fault : (text : List ℕ) (kind : Option Kind) (code code' : SpecCode) (place place' : ℕ) → IsCoreFault text kind code place → IsCoreFault text kind code' place' → (code ≡ code') × (place ≡ place')
one_core_fault text kind _ _ _ _ (of_text c k a) (of_text d l b) = texts_are_determined.one_fault text kind c d k l a b
one_core_fault text kind _ _ _ _ (of_text c k a) (too_many flat is none more) = absurd (none c k a)
one_core_fault text kind _ _ _ _ (too_many flat is none more) (of_text d l b) = absurd (none d l b)
one_core_fault text kind _ _ _ _ (too_many flat is none more) (too_many flat' is' none' more') = (refl, refl)

pub core_faults_are_determined : CoreFaultsAreDetermined
core_faults_are_determined = one_core_fault

-- no machine satisfies what a circuit defeats
none_satisfies : (x : Wanted) (c : Circuit) → CircuitDefeats x c → (m : MachineModel) → Satisfies x m → ⊥
none_satisfies x c defeated m satisfies =
    let play = defeated.plays m satisfies.system in
    let wins = satisfies.means play.0 play.1.of_system in
    let loses = defeated.loses m play.0 satisfies.system play.1 in
    let e : ◌≡◌ {A = Bool} true false = sym wins ∙ loses in
    cc

record HasBeaten (IsGround : Option Kind → Ground → Type 0) (kind : Option Kind) : Type 0 where
  ground : Ground
  is_ground : IsGround kind ground
  none : (m : MachineModel) → Satisfies ground.wanted m → ⊥

module _ (IsFault : SpecCode → ℕ → Type 0) (IsGround : Option Kind → Ground → Type 0) (kind : Option Kind) (settings : Settings) (bytes : List ℕ) (status : ℕ) where
  by_side : (ground : Ground) → IsGround kind ground → (side : Side) (c : Circuit) → DoesItsPart ground.wanted side c → is_environment side ≡ true → HasBeaten IsGround kind
  by_side ground is Environment c does e = record { ground = ground; is_ground = is; none = none_satisfies ground.wanted c does }
  by_side ground is System c does e = absurd (let never : ⊥ = cc in never)

  has_beaten : (a : AnswersFor IsFault IsGround kind settings bytes status) → defeats a ≡ true → HasBeaten IsGround kind
  has_beaten (unrealizable p n c is holds) e = record { ground = p.ground; is_ground = p.is_ground; none = none_satisfies p.ground.wanted c holds.defeats }
  has_beaten (bounded p side n c is holds) e = by_side p.ground p.is_ground side c holds.does e
  has_beaten (refused code position is fault line) e = absurd (let never : ⊥ = cc in never)
  has_beaten (realizable p n c is holds) e = absurd (let never : ⊥ = cc in never)
  has_beaten (no_size p is holds) e = absurd (let never : ⊥ = cc in never)
  has_beaten (no_entries p side n is holds) e = absurd (let never : ⊥ = cc in never)

pub cores_cannot_be_met : CoresCannotBeMet
cores_cannot_be_met text kind settings bytes core =
    let keep = core.told.keep in
    let told = core.told.defeated in
    let beaten = has_beaten (IsFaultOver text keep kind) (IsGroundOver text keep) kind settings core.told.document told.status told.is_told.answers told.is_told.told in
    record { ground = beaten.ground; is_ground = beaten.is_ground; none = beaten.none }
