-- Where the annotation stands, and what may stand behind it (this project's own). What its lines state needs the text.
use Rattle.std.specs.Prelude.{ℕ, ◌+◌, Bool, Option, Some, None, List, [], ◌∷◌, codes, is_some, if◌then◌else◌}
use Rattle.std.specs.List.{slice_split, join_with_byte}
use Rattle.std.specs.Str.{bytes_eq}
use Rattle.aiger_text.specs.Words.{is_byte}
use Rattle.document_text.specs.Header.{behind, front}
use Rattle.document_text.specs.Lines.{end_text}
use Rattle.document_text.specs.Logs.{bad_behind}

-- the pieces between line ends; the last one isn't ended
abbrev pub pieces_of : List ℕ → List (List ℕ)
pieces_of bytes = slice_split (is_byte 10) bytes

-- the first line is the head of an annotation, or it would be one if its numbers are right
abbrev pub has_head : List ℕ → Bool
has_head text = is_some (front (behind (codes "annotation ")) text)

-- The first bad line behind an annotation, whose pieces from line n on are these: the one behind its line `end`, where anything
-- stands there. No other line of an annotation is `end`.
abbrev pub bad_behind_end : ℕ → List (List ℕ) → Option ℕ
bad_behind_end n [] = None
bad_behind_end n (last ∷ []) = None
bad_behind_end n (line ∷ next ∷ more) =
    if bytes_eq line (codes "end") then bad_behind n (join_with_byte 10 (next ∷ more)) else bad_behind_end (n + 1) (next ∷ more)

-- the first bad line where line n has to be the line `end`, and nothing may stand behind it
abbrev pub on_end : ℕ → Option (List ℕ) → Option ℕ
on_end n None = Some n
on_end n (Some rest) = bad_behind n rest

abbrev pub bad_at_end : ℕ → List ℕ → Option ℕ
bad_at_end n bytes = on_end n (behind end_text bytes)

-- an annotation's text, with the line of its head
pub record AnnotationText : Type 0 where
  pub line : ℕ
  pub text : List ℕ

-- the annotation in line n, where its head stands there
abbrev pub annotation_at : ℕ → List ℕ → Option AnnotationText
annotation_at n text = if has_head text then Some (record { line = n; text = text }) else None

-- the first bad line from line n on, where the annotation's head is wanted
abbrev pub bad_of_annotation : ℕ → List ℕ → Option ℕ
bad_of_annotation n text = if has_head text then bad_behind_end n (pieces_of text) else Some n
