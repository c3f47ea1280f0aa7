use Rattle.std.specs.Prelude.{◌≡◌, ℕ, zero, suc, ◌<◌, List, length, slice_index, slice_index_or}
use Rattle.letters_and_lassos.specs.declared.letters.Letter.{Letter}
use Rattle.letters_and_lassos.specs.declared.kinds.Side.{Side}
use Rattle.letters_and_lassos.specs.Word.{Word, no_signals, nth_letter}
use Rattle.machine_model.specs.Machine.{MachineModel, next_of, writes_of, size_of}
use Rattle.machine_model.specs.Run.{joined_letter}

-- the read letter number j of a lasso's word
abbrev pub read_at : Word → ℕ → ℕ
read_at reads j = (nth_letter reads j).0

-- the state that a machine is in after j letters of the word (textbooks)
abbrev pub state_after : MachineModel → Word → ℕ → ℕ
state_after m reads zero = 0
state_after m reads (suc j) = next_of m (state_after m reads j) (read_at reads j)

-- the whole letter of a read letter and what a state writes on it
abbrev pub letter_of : Side → MachineModel → ℕ → ℕ → Letter
letter_of side m t read = record { 0 = joined_letter side m read (writes_of m t read) }

-- the machine's run on the word, as far as the given letters go: the states before them, and the state after them
pub record IsCourse (m : MachineModel) (side : Side) (reads : Word) (letters : List Letter) (states : List ℕ) (state : ℕ) : Type 0 where
  pub places : length states ≡ length letters
  pub letter : (i : ℕ) → i < length letters → slice_index_or letters i no_signals ≡ letter_of side m (state_after m reads i) (read_at reads i)
  pub before : (i : ℕ) → i < length letters → slice_index states i ≡ state_after m reads i
  pub after : state ≡ state_after m reads (length letters)
  pub within : state < size_of m
