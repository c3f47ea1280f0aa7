-- What the definitions are to mean (this project's own).
use Rattle.std.specs.Prelude.{◌≡◌, ◌^◌, ◌<◌, ℕ, List, Option, length}
use Rattle.letters_and_lassos.specs.declared.kinds.Kind.{Kind}
use Rattle.synth_engine.specs.declared.settings.Settings.{Settings}
use Rattle.synth_answer.specs.Answer.{Answers}
use Rattle.batch_answer.specs.Batch.{AreLines, BatchAnswers}
use Rattle.batch_answer.specs.ListText.{IsFirstBadLineOfList, IsList}

-- bytes are one list, or have one first bad line, and not both
pub record ListsAreDetermined : Type 0 where
  pub one_list : (bytes : List ℕ) (names others : List (List ℕ)) → IsList bytes names → IsList bytes others → names ≡ others
  pub one_line : (bytes : List ℕ) (m n : ℕ) → IsFirstBadLineOfList bytes m → IsFirstBadLineOfList bytes n → m ≡ n
  pub apart : (bytes : List ℕ) (names : List (List ℕ)) (n : ℕ) → IsList bytes names → IsFirstBadLineOfList bytes n → ⊥

-- an answer to a text is whole lines
abbrev pub AnswersAreLines : Type 0
AnswersAreLines = (text : List ℕ) (kind : Option Kind) (settings : Settings) (bytes : List ℕ) (status : ℕ) → Answers text kind settings bytes status
    → AreLines bytes

-- the bytes of a batch tell one status and the same lines of each text, whatever texts they answer
abbrev pub BatchesAreReadBack : Type 0
BatchesAreReadBack = (names texts others : List (List ℕ)) (settings limits : Settings) (bytes : List ℕ) → length bytes < 2 ^ 64
    → (a : BatchAnswers names texts settings bytes) (b : BatchAnswers names others limits bytes) → a.parts ≡ b.parts
