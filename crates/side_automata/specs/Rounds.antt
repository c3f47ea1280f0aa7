use Rattle.std.specs.Prelude.{◌≡◌, ℕ, zero, suc, ◌<◌, List, length, slice_index_or}
use Rattle.letters_and_lassos.specs.declared.letters.Letter.{Letter}
use Rattle.letters_and_lassos.specs.declared.kinds.Kind.TheVariants.{Mealy, Moore}
use Rattle.letters_and_lassos.specs.declared.kinds.Side.TheVariants.{System}
use Rattle.letters_and_lassos.specs.Word.{no_signals}
use Rattle.machine_model.specs.Machine.{MachineModel, next_of, size_of, writes_of}
use Rattle.machine_model.specs.Course.{letter_of}
use Rattle.side_automata.specs.declared.plays.States.{States}

-- The one word of two machines that play against each other, round by round (the duality of Mealy and Moore machines).

-- what the environment's machine hears when it writes: a Moore machine of the system has written by then, and to a
-- Moore machine of the environment it makes no difference
abbrev pub heard_of : MachineModel → States → ℕ
heard_of system p = elim system.kind [ Mealy ↦ 0 | Moore ↦ writes_of system p.system 0 ]

-- what both write in a round
abbrev pub input_of : MachineModel → MachineModel → States → ℕ
input_of system environment p = writes_of environment p.environment (heard_of system p)

abbrev pub output_of : MachineModel → MachineModel → States → ℕ
output_of system environment p = writes_of system p.system (input_of system environment p)

-- the whole letter of a round
abbrev pub round_letter : MachineModel → MachineModel → States → Letter
round_letter system environment p = letter_of System system p.system (input_of system environment p)

-- the states after a round
abbrev pub next_states : MachineModel → MachineModel → States → States
next_states system environment p = record {
  system = next_of system p.system (input_of system environment p);
  environment = next_of environment p.environment (output_of system environment p);
}

-- the states after so many rounds
abbrev pub states_after : MachineModel → MachineModel → ℕ → States
states_after system environment zero = record { system = 0; environment = 0 }
states_after system environment (suc j) = next_states system environment (states_after system environment j)

-- both states are the machines'
pub record AreStates (system environment : MachineModel) (p : States) : Type 0 where
  pub of_system : p.system < size_of system
  pub of_environment : p.environment < size_of environment

-- the first rounds' letters, and the states after them
pub record AreRounds (system environment : MachineModel) (letters : List Letter) (p : States) : Type 0 where
  pub letter : (i : ℕ) → i < length letters → slice_index_or letters i no_signals ≡ round_letter system environment (states_after system environment i)
  pub after : p ≡ states_after system environment (length letters)
