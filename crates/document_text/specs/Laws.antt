-- Laws of documents (this project's own).
use Rattle.std.specs.Prelude.{◌≡◌, ℕ, Some, None, List, IfSome}
use Rattle.aiger_text.specs.RoundTrip.{IsWritable}
use Rattle.document_text.specs.Parts.{Document}
use Rattle.document_text.specs.Lines.{document_text}
use Rattle.document_text.specs.Reading.{DocumentLines, Reads, IsFirstBadLine, document_of}
use Rattle.document_text.specs.WellFormed.{IsWellFormed}
use Rattle.document_text.specs.States.{States, numbered}

-- Bytes are read in one way. They state one document at most, and that exactly where no line is bad; else one line is the first.
pub record DocumentsAreDetermined : Type 0 where
  pub one_reading : (bytes : List ℕ) (a b : DocumentLines) → Reads bytes a → Reads bytes b → a ≡ b
  pub one_document : (bytes : List ℕ) (d e : Document) → States bytes d → States bytes e → d ≡ e
  pub good_lines : (bytes : List ℕ) (lines : DocumentLines) (d : Document) → Reads bytes lines → lines.bad ≡ None → document_of lines ≡ Some d → States bytes d
  pub all_good : (bytes : List ℕ) (lines : DocumentLines) (d : Document) → Reads bytes lines → States bytes d → (lines.bad ≡ None) × (document_of lines ≡ Some d)
  pub one_bad_line : (bytes : List ℕ) (n m : ℕ) → IsFirstBadLine bytes n → IsFirstBadLine bytes m → n ≡ m
  pub stated_not_bad : (bytes : List ℕ) (d : Document) (n : ℕ) → States bytes d → IsFirstBadLine bytes n → ⊥

-- what is written of a well formed document states it, up to the numbers of its lines
abbrev pub WrittenIsRead : Document → Type 0
WrittenIsRead d = IsWellFormed d → IfSome d.circuit IsWritable → States (document_text d) (numbered d)
