use Rattle.std.proofs.Common.{◌≡◌, ℕ, zero, suc, ◌^◌, ◌<◌, refl, sym, ap, ◌∙◌}
use Rattle.std.proofs.lemmas.Nat.{pow_pos}
use Rattle.letters_and_lassos.specs.declared.kinds.Kind.{Kind}
use Rattle.letters_and_lassos.specs.declared.kinds.Kind.TheVariants.{Mealy, Moore}
use Rattle.machine_model.specs.Machine.{MachineModel, IsMachine, writes_of}
use Rattle.machine_model.specs.Run.{ArePartners}
use Rattle.machine_model.proofs.Tables.{size_pos}
use Rattle.side_automata.specs.declared.plays.States.{States}
use Rattle.side_automata.specs.Rounds.{AreStates, heard_of, input_of, next_states, output_of, states_after}

-- one of two different kinds is Moore
other_kind : (k l : Kind) → (k ≡ l → ⊥) → k ≡ Mealy → l ≡ Moore
other_kind k Mealy apart is = absurd (apart is)
other_kind k Moore apart is = refl

module _ (system environment : MachineModel) (is_system : IsMachine system) (is_environment : IsMachine environment) (partners : ArePartners system environment) where
  -- what one writes the other reads
  pub inputs_fit : 2 ^ environment.writes ≡ 2 ^ system.reads
  inputs_fit = ap (λ n. 2 ^ n) (sym partners.inputs)

  pub outputs_fit : 2 ^ system.writes ≡ 2 ^ environment.reads
  outputs_fit = ap (λ n. 2 ^ n) partners.outputs

  module _ (p : States) (are : AreStates system environment p) where
    heard_at : (k : Kind) → elim k as (λ _. ℕ) [ Mealy ↦ 0 | Moore ↦ writes_of system p.system 0 ] < 2 ^ environment.reads
    heard_at Mealy = pow_pos environment.reads
    heard_at Moore = rw (← outputs_fit) (is_system.letters p.system 0 are.of_system (pow_pos system.reads))

    pub heard_within : heard_of system p < 2 ^ environment.reads
    heard_within = heard_at system.kind

    pub input_within : input_of system environment p < 2 ^ system.reads
    input_within = rw (← inputs_fit) (is_environment.letters p.environment (heard_of system p) are.of_environment heard_within)

    pub output_within : output_of system environment p < 2 ^ environment.reads
    output_within = rw (← outputs_fit) (is_system.letters p.system (input_of system environment p) are.of_system input_within)

    -- whatever both write, the environment's machine hears what it would hear
    hears_at : (k : Kind) → system.kind ≡ k → (i o : ℕ) → i < 2 ^ system.reads → o < 2 ^ environment.reads → o ≡ writes_of system p.system i
        → writes_of environment p.environment o ≡ writes_of environment p.environment (elim k as (λ _. ℕ) [ Mealy ↦ 0 | Moore ↦ writes_of system p.system 0 ])
    hears_at Mealy is i o hi ho writes =
        is_environment.moore (other_kind system.kind environment.kind partners.kinds is) p.environment o 0 are.of_environment ho (pow_pos environment.reads)
    hears_at Moore is i o hi ho writes =
        ap (writes_of environment p.environment) (writes ∙ is_system.moore is p.system i 0 are.of_system hi (pow_pos system.reads))

    pub hears : (i o : ℕ) → i < 2 ^ system.reads → o < 2 ^ environment.reads → o ≡ writes_of system p.system i → writes_of environment p.environment o ≡ input_of system environment p
    hears = hears_at system.kind refl

    -- so the environment's machine writes the round's input on the round's output
    pub input-written : input_of system environment p ≡ writes_of environment p.environment (output_of system environment p)
    input-written = sym (hears (input_of system environment p) (output_of system environment p) input_within output_within refl)

    pub next_within : AreStates system environment (next_states system environment p)
    next_within = record {
      of_system = is_system.nexts p.system (input_of system environment p) are.of_system input_within;
      of_environment = is_environment.nexts p.environment (output_of system environment p) are.of_environment output_within;
    }

  pub after_within : (j : ℕ) → AreStates system environment (states_after system environment j)
  after_within zero = record { of_system = size_pos system is_system.shape; of_environment = size_pos environment is_environment.shape }
  after_within (suc j) = next_within (states_after system environment j) (after_within j)
