-- Which form the annotation of a circuit's file has (this project's own).
use Rattle.std.specs.Prelude.{◌≡◌, ◌==◌, ℕ, Bool, true, false, List, Some, Ok, Err, Result, length}
use Rattle.aiger_text.specs.CircuitFile.{File, States}
use Rattle.annot_check.specs.AnnotationText.{Headed, head_from, pieces_of}
use Rattle.named_annotation.specs.NamedText.{words_of}
use Rattle.circuit_check.specs.FirstBad.{comment_of}

-- whether a head has two words behind its first one
abbrev pub has_two_words : List ℕ → Bool
has_two_words word = length (words_of word) == 2

abbrev pub head_names : Result Headed ℕ → Bool
head_names (Ok head) = has_two_words head.word
head_names (Err n) = false

-- whether the first line of a comment that begins as a head has three words
abbrev pub comment_names : List ℕ → Bool
comment_names comment = head_names (head_from (pieces_of comment) 1)

-- the file is a circuit without fault, and the first line of its comment that begins as a head has three words
pub record NamesStates (bytes : List ℕ) : Type 0 where
  pub file : File
  pub states : States bytes file
  pub comment : List ℕ
  pub comment_is : comment_of file bytes ≡ Some comment
  pub names : comment_names comment ≡ true
