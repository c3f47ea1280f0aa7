use Rattle.std.specs.Prelude.{◌≡◌, ◌≢◌, ℕ, ◌+◌, ◌*◌, ◌/◌, ◌%◌, ◌^◌, ◌<◌, List, length, map, slice_index}
use Rattle.letters_and_lassos.specs.declared.letters.Letter.{Letter}
use Rattle.letters_and_lassos.specs.declared.kinds.Side.{Side}
use Rattle.letters_and_lassos.specs.declared.kinds.Side.TheVariants.{System, Environment}
use Rattle.letters_and_lassos.specs.Word.{Word, HasRing, lasso_len, next, letter_at}
use Rattle.machine_model.specs.Machine.{MachineModel, next_of, writes_of}

-- A whole letter has the inputs as its low bits and the outputs above them. The system reads the inputs and
-- writes the outputs; the environment reads the outputs and writes the inputs (bounded synthesis of Finkbeiner
-- and Schewe).

-- the whole letter of a read and a written one
abbrev pub joined_letter : Side → MachineModel → ℕ → ℕ → ℕ
joined_letter System m read written = written * 2 ^ m.reads + read
joined_letter Environment m read written = read * 2 ^ m.writes + written

-- what the machine reads of a whole letter
abbrev pub read_part : Side → MachineModel → Letter → ℕ
read_part System m letter = letter.0 % 2 ^ m.reads
read_part Environment m letter = letter.0 / 2 ^ m.writes

-- what the machine writes of a whole letter
abbrev pub written_part : Side → MachineModel → Letter → ℕ
written_part System m letter = letter.0 / 2 ^ m.reads
written_part Environment m letter = letter.0 % 2 ^ m.writes

-- the lasso of what the machine reads of a lasso of whole letters
abbrev pub read_lasso : Side → MachineModel → Word → Word
read_lasso side m w = record {
  stem = map (λ letter. record { 0 = read_part side m letter }) w.stem;
  ring = map (λ letter. record { 0 = read_part side m letter }) w.ring;
}

-- a run lasso of a machine that plays a side: a lasso of whole letters with a state at each position, state 0 at
-- position 0; what is written is what the table says, and so is the state at the next position (textbooks)
pub record IsRunLasso (m : MachineModel) (side : Side) (w : Word) (states : List ℕ) : Type 0 where
  pub ring : HasRing w
  pub places : length states ≡ lasso_len w
  pub start : slice_index states 0 ≡ 0
  pub reads : (i : ℕ) → i < lasso_len w → read_part side m (letter_at w i) < 2 ^ m.reads
  pub writes : (i : ℕ) → i < lasso_len w → written_part side m (letter_at w i) ≡ writes_of m (slice_index states i) (read_part side m (letter_at w i))
  pub moves : (i : ℕ) → i < lasso_len w → slice_index states (next w i) ≡ next_of m (slice_index states i) (read_part side m (letter_at w i))

-- a lasso that some states make a run lasso
abbrev pub IsRun : MachineModel → Side → Word → Type 0
IsRun m side w = (states : List ℕ) × IsRunLasso m side w states

-- two machines that can play against each other: their kinds are different, and each reads what the other writes
pub record ArePartners (system environment : MachineModel) : Type 0 where
  pub kinds : system.kind ≢ environment.kind
  pub inputs : system.reads ≡ environment.writes
  pub outputs : system.writes ≡ environment.reads

-- a play of a machine of the system and one of the environment: a lasso that is a run lasso of both (the duality
-- of Mealy and Moore machines)
pub record IsPlay (system environment : MachineModel) (w : Word) : Type 0 where
  pub of_system : IsRun system System w
  pub of_environment : IsRun environment Environment w
