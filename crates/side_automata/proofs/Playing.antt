use Rattle.std.proofs.Common.{◌≡◌, ℕ, ◌+◌, ◌*◌, ◌<◌, List, [], ◌∷◌, ◌++◌, Option, Some, None, length, get_or, set, sym, ap, ◌∙◌, arith, inl, inr}
use Rattle.std.proofs.lemmas.Bool.{cases_eq}
use Rattle.std.proofs.lemmas.Nat.{mul-add-lt}
use Rattle.std.proofs.Math.Nat.{mul_comm}
use Rattle.std.proofs.lemmas.List.{get_or-set_same, get_or-set_other, length-set, length_push}
use Rattle.letters_and_lassos.specs.declared.letters.Letter.{Letter}
use Rattle.machine_model.specs.Machine.{MachineModel, IsMachine, size_of}
use Rattle.machine_model.specs.Run.{ArePartners, IsPlay}
use Rattle.machine_model.proofs.Closing.{cut}
use Rattle.side_automata.specs.declared.plays.States.{States}
use Rattle.side_automata.specs.Rounds.{AreRounds, AreStates, next_states, round_letter, states_after}
use Rattle.side_automata.proofs.Rounds.{next_within, after_within}
use Rattle.side_automata.proofs.PlayLaws.{closed_play, rounds_more, same_states}

-- the place of both states in the table
abbrev pub place_of : MachineModel → States → ℕ
place_of environment p = p.system * size_of environment + p.environment

-- round k had the states of this place
pub record IsMet (system environment : MachineModel) (letters : List Letter) (place k : ℕ) : Type 0 where
  pub before : k < length letters
  pub there : place_of environment (states_after system environment k) ≡ place

-- the rounds so far, and a table that has for each states that they met a round that had them
pub record IsPlaying (system environment : MachineModel) (letters : List Letter) (p : States) (met : List (Option ℕ)) : Type 0 where
  pub rounds : AreRounds system environment letters p
  pub states : AreStates system environment p
  pub places : length met ≡ size_of system * size_of environment
  pub known : (place k : ℕ) → get_or met place None ≡ Some k → IsMet system environment letters place k

module _ (system environment : MachineModel) (is_system : IsMachine system) (is_environment : IsMachine environment) (partners : ArePartners system environment) where
  -- the place of the states is in the table
  pub place_within : (p : States) → AreStates system environment p → place_of environment p < size_of system * size_of environment
  place_within p are = rw (mul_comm (size_of system) (size_of environment)) (mul-add-lt p.system (size_of environment) p.environment (size_of system) are.of_system are.of_environment)

  pub playing_more : (letters : List Letter) (p : States) (met : List (Option ℕ)) → IsPlaying system environment letters p met
      → IsPlaying system environment (letters ++ round_letter system environment p ∷ []) (next_states system environment p) (set met (place_of environment p) (Some (length letters)))
  playing_more letters p met playing =
      let longer : length (letters ++ round_letter system environment p ∷ []) ≡ length letters + 1 = length_push letters (round_letter system environment p) in
      record {
        rounds = rounds_more system environment is_system is_environment partners letters p playing.rounds;
        states = next_within system environment is_system is_environment partners p playing.states;
        places = length-set met (place_of environment p) (Some (length letters)) ∙ playing.places;
        known = λ place k is. elim (cases_eq place (place_of environment p)) [
          | inl here ↦
              let within : place_of environment p < length met = rw playing.places (place_within p playing.states) in
              let stored : Some (length letters) ≡ Some k = sym (get_or-set_same met (place_of environment p) (Some (length letters)) None within) ∙ ap (λ n. get_or (set met (place_of environment p) (Some (length letters))) n None) (sym here) ∙ is in
              let same : length letters ≡ k = cc in
              record { before = omega (arith, same, longer); there = ap (λ n. place_of environment (states_after system environment n)) (sym same) ∙ sym (ap (place_of environment) playing.rounds.after) ∙ sym here }
          | inr other ↦
              let old : IsMet system environment letters place k = playing.known place k (sym (get_or-set_other met (place_of environment p) place (Some (length letters)) None other) ∙ is) in
              record { before = let before : k < length letters = old.before in omega (arith, before, longer); there = old.there }
        ];
      }

  -- states that were met close the play
  pub playing_before : (letters : List Letter) (p : States) (met : List (Option ℕ)) (k : ℕ) → IsPlaying system environment letters p met → get_or met (place_of environment p) None ≡ Some k → k < length letters
  playing_before letters p met k playing is = (playing.known (place_of environment p) k is).before

  pub playing_closes : (letters : List Letter) (p : States) (met : List (Option ℕ)) (k : ℕ) → IsPlaying system environment letters p met → get_or met (place_of environment p) None ≡ Some k
      → IsPlay system environment (cut letters k)
  playing_closes letters p met k playing is =
      let old : IsMet system environment letters (place_of environment p) k = playing.known (place_of environment p) k is in
      closed_play system environment is_system is_environment partners letters p playing.rounds k old.before
      (same_states system environment is_system is_environment partners (states_after system environment k) p
      (after_within system environment is_system is_environment partners k) playing.states old.there)
