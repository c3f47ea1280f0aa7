-- A shelf and a sink in memory that fail at stated calls. This project's own.
use Rattle.std.specs.Prelude.{◌≡◌, ℕ, ◌+◌, ◌-◌, ◌^◌, ◌||◌, min, false, Bool, IsTrue, List, [], ◌∷◌, ◌++◌, Result, Ok, Err, nat_eq, is_none}
use Rattle.std.specs.List.{list_any}
use Rattle.input_output.specs.Files.{files_of}
use Rattle.input_output.specs.declared.shelf.ShelfFault.{ShelfFault}
use Rattle.input_output.specs.declared.shelf.ShelfFault.TheVariants as shelf
use Rattle.input_output.specs.declared.sink.SinkFault.{SinkFault}
use Rattle.input_output.specs.declared.sink.SinkFault.TheVariants as sink

-- what a shelf in memory keeps: its files, the numbers of the calls that fail, how many calls there
-- were, and the names of those that failed
pub record ShelfState : Type 0 where
  pub files : List (List ℕ × List ℕ)
  pub failing : List ℕ
  pub calls : ℕ
  pub failed : List (List ℕ)

-- what a sink in memory keeps: its bytes, the numbers of the calls that fail, how many calls there
-- were, and how many of them failed
pub record SinkState : Type 0 where
  pub bytes : List ℕ
  pub failing : List ℕ
  pub calls : ℕ
  pub faults : ℕ

-- A count of one more. It stays at the greatest number of 64 bits.
abbrev pub one_more : ℕ → ℕ
one_more count = min (count + 1) (2 ^ 64 - 1)

-- the next call fails: its number, from 1, is among the failing ones
abbrev pub is_failing : List ℕ → ℕ → Bool
is_failing failing calls = list_any (nat_eq (one_more calls)) failing

-- taking this name fails: it's a failing call, or the name isn't there
abbrev pub take_fails : ShelfState → List ℕ → Bool
take_fails shelf name = is_failing shelf.failing shelf.calls || is_none (files_of shelf.files name)

-- What taking a name answers, and leaves. A call that wants memory isn't counted.
abbrev pub AnswersTake : ShelfState → List ℕ → Result (Unit {0}) ShelfFault → ShelfState → Type 0
AnswersTake old name (Ok _) new = (take_fails old name ≡ false) × (new ≡ record old { calls = one_more old.calls })
AnswersTake old name (Err shelf.TooLong) new = (take_fails old name ≡ false) × (new ≡ record old { calls = one_more old.calls })
AnswersTake old name (Err shelf.Failed) new =
    IsTrue (take_fails old name) × (new ≡ record old { calls = one_more old.calls; failed = old.failed ++ name ∷ [] })
AnswersTake old name (Err shelf.NoMemory) new = new ≡ old

-- What taking a part answers, and leaves. A call that wants memory isn't counted, and no part is too long.
abbrev pub AnswersPart : ShelfState → List ℕ → Result ℕ ShelfFault → ShelfState → Type 0
AnswersPart old name (Ok _) new = (take_fails old name ≡ false) × (new ≡ record old { calls = one_more old.calls })
AnswersPart old name (Err shelf.TooLong) new = ⊥
AnswersPart old name (Err shelf.Failed) new =
    IsTrue (take_fails old name) × (new ≡ record old { calls = one_more old.calls; failed = old.failed ++ name ∷ [] })
AnswersPart old name (Err shelf.NoMemory) new = new ≡ old

-- What putting bytes answers, and leaves. A call that wants memory isn't counted.
abbrev pub AnswersPut : SinkState → List ℕ → Result (Unit {0}) SinkFault → SinkState → Type 0
AnswersPut old bytes (Ok _) new =
    (is_failing old.failing old.calls ≡ false) × (new ≡ record old { bytes = old.bytes ++ bytes; calls = one_more old.calls })
AnswersPut old bytes (Err sink.Failed) new =
    IsTrue (is_failing old.failing old.calls) × (new ≡ record old { calls = one_more old.calls; faults = one_more old.faults })
AnswersPut old bytes (Err sink.NoMemory) new = new ≡ old
