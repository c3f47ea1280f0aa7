use Rattle.std.proofs.Common.{◌≡◌, ℕ, zero, suc, ◌+◌, ◌*◌, ◌/◌, ◌%◌, ◌^◌, ◌<◌, List, [], ◌∷◌, ◌++◌, length, get_or, refl, sym, ap, ◌∙◌, arith}
use Rattle.std.proofs.lemmas.Nat.{mul-add-lt, mod-mul-add, div-mul-add}
use Rattle.std.proofs.lemmas.List.{length_push}
use Rattle.letters_and_lassos.specs.declared.letters.Letter.{Letter}
use Rattle.letters_and_lassos.specs.declared.kinds.Side.TheVariants.{System, Environment}
use Rattle.letters_and_lassos.specs.Word.{Word, after, nth_letter, no_signals}
use Rattle.letters_and_lassos.proofs.Positions.{after-suc}
use Rattle.machine_model.specs.Machine.{MachineModel, IsMachine, next_of, size_of, writes_of}
use Rattle.machine_model.specs.Run.{ArePartners, IsPlay, IsRunLasso, joined_letter, read_part, written_part}
use Rattle.machine_model.proofs.Readings.{read_part-joined, written_part-joined, joined-parts}
use Rattle.machine_model.proofs.Determined.{step_within}
use Rattle.machine_model.proofs.Courses.{push_agrees}
use Rattle.machine_model.proofs.Closing.{cut}
use Rattle.machine_model.proofs.Pigeonhole.{IsRepeated, pigeonhole}
use Rattle.side_automata.specs.declared.plays.States.{States}
use Rattle.side_automata.specs.Rounds.{AreRounds, AreStates, input_of, next_states, output_of, round_letter, states_after}
use Rattle.side_automata.specs.Laws.{EveryPairHasAPlay, PlaysAreOneWord}
use Rattle.side_automata.proofs.Rounds.{inputs_fit, outputs_fit, input_within, output_within, input-written, hears, after_within}
use Rattle.side_automata.proofs.Closed.{ComesBack, comes_back, firsts}

module _ (system environment : MachineModel) (is_system : IsMachine system) (is_environment : IsMachine environment) (partners : ArePartners system environment) where
  abbrev at : ℕ → States
  at j = states_after system environment j

  abbrev input : ℕ → ℕ
  input j = input_of system environment (at j)

  abbrev output : ℕ → ℕ
  output j = output_of system environment (at j)

  are_at : (j : ℕ) → AreStates system environment (at j)
  are_at j = after_within system environment is_system is_environment partners j

  input_at : (j : ℕ) → input j < 2 ^ system.reads
  input_at j = input_within system environment is_system is_environment partners (at j) (are_at j)

  output_at : (j : ℕ) → output j < 2 ^ environment.reads
  output_at j = output_within system environment is_system is_environment partners (at j) (are_at j)

  output_in : (j : ℕ) → output j < 2 ^ system.writes
  output_in j = rw (outputs_fit system environment is_system is_environment partners) (output_at j)

  -- the parts of a round's letter, as each machine sees them
  system_reads : (j : ℕ) → read_part System system (round_letter system environment (at j)) ≡ input j
  system_reads j = read_part-joined System system (input j) (output j) (input_at j) (output_in j)

  system_writes : (j : ℕ) → written_part System system (round_letter system environment (at j)) ≡ output j
  system_writes j = written_part-joined System system (input j) (output j) (input_at j) (output_in j)

  -- what one machine reads of a letter is what the other one writes of it
  pub reads_written : (letter : Letter) → read_part Environment environment letter ≡ written_part System system letter
  reads_written letter = ap (λ n. letter.0 / n) (inputs_fit system environment is_system is_environment partners)

  pub written_read : (letter : Letter) → written_part Environment environment letter ≡ read_part System system letter
  written_read letter = ap (λ n. letter.0 % n) (inputs_fit system environment is_system is_environment partners)

  module _ (letters : List Letter) (p : States) (rounds : AreRounds system environment letters p) (k : ℕ) (before : k < length letters) (same : states_after system environment k ≡ p) where
    again : at k ≡ at (length letters)
    again = same ∙ rounds.after

    of_system : ComesBack system System letters (λ j. (at j).system) input k
    of_system = record {
      before = before;
      start = refl;
      within = input_at;
      read = λ i h. ap (read_part System system) (rounds.letter i h) ∙ system_reads i;
      written = λ i h. ap (written_part System system) (rounds.letter i h) ∙ system_writes i;
      step = λ i. refl;
      again = ap (λ (s : States). s.system) again;
    }

    of_environment : ComesBack environment Environment letters (λ j. (at j).environment) output k
    of_environment = record {
      before = before;
      start = refl;
      within = output_at;
      read = λ i h. ap (read_part Environment environment) (rounds.letter i h) ∙ reads_written (round_letter system environment (at i)) ∙ system_writes i;
      written = λ i h.
          ap (written_part Environment environment) (rounds.letter i h) ∙ written_read (round_letter system environment (at i)) ∙ system_reads i
          ∙ input-written system environment is_system is_environment partners (at i) (are_at i);
      step = λ i. refl;
      again = ap (λ (s : States). s.environment) again;
    }

    -- rounds that come back to the states of an earlier one are a play
    pub closed_play : IsPlay system environment (cut letters k)
    closed_play = record {
      of_system = (firsts (λ j. (at j).system) (length letters), comes_back system System letters (λ j. (at j).system) input k of_system);
      of_environment = (firsts (λ j. (at j).environment) (length letters), comes_back environment Environment letters (λ j. (at j).environment) output k of_environment);
    }

  -- no rounds yet, and one round more
  pub rounds_start : (p : States) → p ≡ at 0 → AreRounds system environment [] p
  rounds_start p is = record { letter = λ i h. absurd (omega arith); after = is }

  pub rounds_more : (letters : List Letter) (p : States) → AreRounds system environment letters p
      → AreRounds system environment (letters ++ round_letter system environment p ∷ []) (next_states system environment p)
  rounds_more letters p rounds =
      let n : length (letters ++ round_letter system environment p ∷ []) ≡ length letters + 1 = length_push letters (round_letter system environment p) in
      let one : length letters + 1 ≡ suc (length letters) = omega arith in
      record {
        letter = rw n (push_agrees (λ i. round_letter system environment (at i)) letters (round_letter system environment p) no_signals rounds.letter (ap (round_letter system environment) rounds.after));
        after = ap (next_states system environment) rounds.after ∙ ap at (sym (n ∙ one));
      }

  -- the letters of so many rounds
  abbrev round_letters : ℕ → List Letter
  round_letters zero = []
  round_letters (suc n) = round_letters n ++ round_letter system environment (at n) ∷ []

  length-round_letters : (n : ℕ) → length (round_letters n) ≡ n
  length-round_letters zero = refl
  length-round_letters (suc n) = let one : n + 1 ≡ suc n = omega arith in length_push (round_letters n) (round_letter system environment (at n)) ∙ ap (λ k. k + 1) (length-round_letters n) ∙ one

  rounds_of : (n : ℕ) → AreRounds system environment (round_letters n) (at n)
  rounds_of zero = rounds_start (at 0) refl
  rounds_of (suc n) = rounds_more (round_letters n) (at n) (rounds_of n)

  -- a number for each pair of states
  abbrev code : ℕ → ℕ
  code j = (at j).system * size_of environment + (at j).environment

  code_within : (j : ℕ) → code j < size_of environment * size_of system
  code_within j = mul-add-lt (at j).system (size_of environment) (at j).environment (size_of system) (are_at j).of_system (are_at j).of_environment

  pub same_states : (p q : States) → AreStates system environment p → AreStates system environment q
      → p.system * size_of environment + p.environment ≡ q.system * size_of environment + q.environment → p ≡ q
  same_states p q are_p are_q e =
      let a : p.system ≡ q.system = sym (div-mul-add p.system (size_of environment) p.environment are_p.of_environment) ∙ ap (λ n. n / size_of environment) e ∙ div-mul-add q.system (size_of environment) q.environment are_q.of_environment in
      let b : p.environment ≡ q.environment = sym (mod-mul-add p.system (size_of environment) p.environment are_p.of_environment) ∙ ap (λ n. n % size_of environment) e ∙ mod-mul-add q.system (size_of environment) q.environment are_q.of_environment in
      λ i. record { system = a i; environment = b i }

  pub has_play : (w : Word) × IsPlay system environment w
  has_play =
      let repeated : IsRepeated code (size_of environment * size_of system) = pigeonhole (size_of environment * size_of system) code (λ k h. code_within k) in
      let same : at repeated.first ≡ at repeated.second = same_states (at repeated.first) (at repeated.second) (are_at repeated.first) (are_at repeated.second) repeated.same in
      let before : repeated.first < length (round_letters repeated.second) = rw length-round_letters repeated.before in
      (cut (round_letters repeated.second) repeated.first, closed_play (round_letters repeated.second) (at repeated.second) (rounds_of repeated.second) repeated.first before same)

-- the states of a play at a round
pub record StandsAt (system environment : MachineModel) (w : Word) (s e : List ℕ) (j : ℕ) : Type 0 where
  pub of_system : get_or s (after w 0 j) 0 ≡ (states_after system environment j).system
  pub of_environment : get_or e (after w 0 j) 0 ≡ (states_after system environment j).environment

module _ (system environment : MachineModel) (is_system : IsMachine system) (is_environment : IsMachine environment) (partners : ArePartners system environment)
    (w : Word) (s e : List ℕ) (runs : IsRunLasso system System w s) (runs' : IsRunLasso environment Environment w e) where
  module _ (j : ℕ) (stands : StandsAt system environment w s e j) where
    abbrev states : States
    states = states_after system environment j

    -- what both write in the round's letter
    output-is : written_part System system (nth_letter w j) ≡ writes_of system states.system (read_part System system (nth_letter w j))
    output-is =
        runs.writes (after w 0 j) (step_within system System w s runs j)
        ∙ ap (λ t. writes_of system t (read_part System system (nth_letter w j))) stands.of_system

    input-is : read_part System system (nth_letter w j) ≡ writes_of environment states.environment (written_part System system (nth_letter w j))
    input-is =
        sym (written_read system environment is_system is_environment partners (nth_letter w j))
        ∙ runs'.writes (after w 0 j) (step_within system System w s runs j)
        ∙ ap (λ t. writes_of environment t (read_part Environment environment (nth_letter w j))) stands.of_environment
        ∙ ap (writes_of environment states.environment) (reads_written system environment is_system is_environment partners (nth_letter w j))

    -- is what the round says
    pub read-is : read_part System system (nth_letter w j) ≡ input_of system environment states
    read-is =
        input-is
        ∙ hears system environment is_system is_environment partners states (after_within system environment is_system is_environment partners j)
        (read_part System system (nth_letter w j)) (written_part System system (nth_letter w j))
        (runs.reads (after w 0 j) (step_within system System w s runs j))
        (rw (reads_written system environment is_system is_environment partners (nth_letter w j)) at (runs'.reads (after w 0 j) (step_within system System w s runs j)))
        output-is

    pub written-is : written_part System system (nth_letter w j) ≡ output_of system environment states
    written-is = output-is ∙ ap (writes_of system states.system) read-is

    pub letter-is : nth_letter w j ≡ round_letter system environment states
    letter-is =
        let number : (nth_letter w j).0 ≡ (round_letter system environment states).0 =
        sym (joined-parts System system (nth_letter w j)) ∙ ap (λ r. joined_letter System system r (written_part System system (nth_letter w j))) read-is
        ∙ ap (joined_letter System system (input_of system environment states)) written-is in
        ap (λ n. let l : Letter = record { 0 = n } in l) number

    stands_next : StandsAt system environment w s e (suc j)
    stands_next = record {
      of_system =
          ap (λ i. get_or s i 0) (after-suc w 0 j) ∙ runs.moves (after w 0 j) (step_within system System w s runs j)
          ∙ ap (λ t. next_of system t (read_part System system (nth_letter w j))) stands.of_system ∙ ap (next_of system states.system) read-is;
      of_environment =
          ap (λ i. get_or e i 0) (after-suc w 0 j) ∙ runs'.moves (after w 0 j) (step_within system System w s runs j)
          ∙ ap (λ t. next_of environment t (read_part Environment environment (nth_letter w j))) stands.of_environment
          ∙ ap (next_of environment states.environment) (reads_written system environment is_system is_environment partners (nth_letter w j) ∙ written-is);
    }

  stands_at : (j : ℕ) → StandsAt system environment w s e j
  stands_at zero = record { of_system = runs.start; of_environment = runs'.start }
  stands_at (suc j) = stands_next j (stands_at j)

  -- each letter of a play is its round's
  pub play_letter : (j : ℕ) → nth_letter w j ≡ round_letter system environment (states_after system environment j)
  play_letter j = letter-is j (stands_at j)

pub plays_are_one_word : PlaysAreOneWord
plays_are_one_word system environment v w is_system is_environment partners of_v of_w = record {
  letters = λ j.
      play_letter system environment is_system is_environment partners v of_v.of_system.0 of_v.of_environment.0 of_v.of_system.1 of_v.of_environment.1 j
      ∙ sym (play_letter system environment is_system is_environment partners w of_w.of_system.0 of_w.of_environment.0 of_w.of_system.1 of_w.of_environment.1 j);
}

pub every_pair_has_a_play : EveryPairHasAPlay
every_pair_has_a_play system environment is_system is_environment partners = has_play system environment is_system is_environment partners
