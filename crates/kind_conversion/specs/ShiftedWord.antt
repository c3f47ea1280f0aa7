use Rattle.std.specs.Prelude.{◌≡◌, ℕ, suc, ◌+◌, ◌*◌, ◌/◌, ◌%◌, ◌^◌, List, [], ◌∷◌, slice_index_or, if◌then◌else◌}
use Rattle.letters_and_lassos.specs.declared.letters.Letter.{Letter}
use Rattle.letters_and_lassos.specs.Signals.{has}
use Rattle.letters_and_lassos.specs.Word.{Word, nth_letter, no_signals}
use Rattle.kind_conversion.specs.declared.shifts.Shift.{Shift}
use Rattle.kind_conversion.specs.declared.shifts.Shift.TheVariants.{Inputs, Outputs}
use Rattle.kind_conversion.specs.Shifts.{is_shifted}

-- v is w with each shifted signal as it is one letter later, and each other signal as it is: a converted text says of w
-- what the text as written says of v (TLSF 1.1)
pub record IsShiftedWord (shift : Shift) (inputs : ℕ) (w v : Word) : Type 0 where
  pub signals : (j k : ℕ) → has (nth_letter v j).0 k ≡ has (nth_letter w (if is_shifted shift inputs k then suc j else j)).0 k

-- the inputs of one letter beside the outputs of another
abbrev pub letter_of : ℕ → Letter → Letter → Letter
letter_of inputs read written = record { 0 = written.0 / 2 ^ inputs * 2 ^ inputs + read.0 % 2 ^ inputs }

-- a letter whose shifted signals are those of the letter behind it
abbrev pub shifted_letter : Shift → ℕ → Letter → Letter → Letter
shifted_letter Inputs inputs here behind = letter_of inputs behind here
shifted_letter Outputs inputs here behind = letter_of inputs here behind

-- letters one by one, where behind the last one stands this letter
abbrev pub shifted_letters : Shift → ℕ → Letter → List Letter → List Letter
shifted_letters shift inputs last [] = []
shifted_letters shift inputs last (letter ∷ letters) =
    shifted_letter shift inputs letter (slice_index_or letters 0 last) ∷ shifted_letters shift inputs last letters

-- where the ring begins
abbrev pub ring_start : Word → Letter
ring_start w = slice_index_or w.ring 0 no_signals

-- the lasso of the shifted word: behind the last letter of the stem, and of the ring, stands the ring's first
abbrev pub shifted_word : Shift → ℕ → Word → Word
shifted_word shift inputs w = record {
  stem = shifted_letters shift inputs (ring_start w) w.stem;
  ring = shifted_letters shift inputs (ring_start w) w.ring;
}
