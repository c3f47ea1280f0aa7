-- The verdict's line and the lines of an annotation have numbers of 64 bits.
use Rattle.std.proofs.Common.{◌≡◌, ℕ, ◌+◌, ◌-◌, ◌^◌, ◌<◌, ◌≤◌, Bool, true, false, cond, Option, Some, None, List, length, drop, refl, sym, ap, arith}
use Rattle.std.specs.Prelude.{IfSome}
use Rattle.std.proofs.lemmas.List.{length-drop}
use Rattle.aiger_text.specs.CircuitFile.{File}
use Rattle.document_text.proofs.CommentLine.{comment_fits}
use Rattle.solved_text.specs.Annotation.{AnnotationText, has_head}
use Rattle.solved_text.specs.Header.{HeaderRead, header_of}
use Rattle.solved_text.specs.Logs.{LogsRead}
use Rattle.solved_text.specs.Reading.{BodyRead, ReadsBehind, ReadsBody, ReadsRest, RestRead, Reads, SolvedLines, annotation_of, at_end, commented, named, of_fault, of_header, of_rest, place_in, uncommented, unnamed, with_logs, without_circuit}
use Rattle.solved_text.specs.Places.{AreNumbered, StandsAmong}
use Rattle.solved_text.proofs.BodyLemmas.{header_fits}
use Rattle.solved_text.proofs.LogLemmas.{logs_fit}

-- an annotation's line and its bytes are at most so many
abbrev Fits : ℕ → Option AnnotationText → Type 0
Fits most annotation = IfSome annotation (λ a. a.line + length a.text ≤ most)

head_fits : (n most : ℕ) (text : List ℕ) (b : Bool) → n + length text ≤ most → Fits most (cond b (Some (record { line = n; text = text })) None)
head_fits n most text true le = le
head_fits n most text false le = tt

behind_fits : (n most : ℕ) (rest : Option (List ℕ)) → ((text : List ℕ) → rest ≡ Some text → n + length text ≤ most) → Fits most (annotation_of n rest)
behind_fits n most None fits = tt
behind_fits n most (Some text) fits = head_fits n most text (has_head text) (fits text refl)

rest_fits : (n : ℕ) (bytes : List ℕ) (refuted : Option ℕ) (rest : RestRead) → ReadsRest n bytes refuted rest → Fits (n + length bytes) rest.annotation
rest_fits n bytes None _ at_end = tt
rest_fits n bytes (Some r) _ (with_logs k read reads) =
    behind_fits read.line (n + length bytes) read.rest (λ text is. logs_fit r 0 n bytes read reads text is)

fits_more : (few many : ℕ) (annotation : Option AnnotationText) → few ≤ many → Fits few annotation → Fits many annotation
fits_more few many None le fits = tt
fits_more few many (Some a) le fits = omega arith

body_fits : (circuit : Bool) (first : ℕ) (bytes : List ℕ) (body : BodyRead) → ReadsBody circuit first bytes body → Fits (first + length bytes + 5) body.rest.annotation
body_fits circuit first bytes _ (of_header n bad) = tt
body_fits circuit first bytes _ (of_rest rest none reads) =
    let h : HeaderRead = header_of circuit first bytes in
    let le = header_fits circuit first bytes (header_of circuit first bytes) refl none in
    fits_more (h.line + length h.rest) (first + length bytes + 5) rest.annotation le
    (rest_fits (header_of circuit first bytes).line (header_of circuit first bytes).rest (header_of circuit first bytes).header.refuted rest reads)

place_fits : (bytes : List ℕ) (most : ℕ) (annotation : Option AnnotationText) → Fits most annotation → most + 2 < 2 ^ 64 → IfSome (place_in bytes annotation) (StandsAmong bytes)
place_fits bytes most None fits room = tt
place_fits bytes most (Some a) fits room =
    let n : length (drop (length bytes - length a.text) bytes) ≡ length bytes - (length bytes - length a.text) = length-drop (length bytes - length a.text) bytes in
    record { within = omega arith; numbered = omega (arith, n, fits, room) }

module _ (bytes : List ℕ) (small : length bytes < 2 ^ 63) where
  behind_numbered : (file : File) (at : ℕ) (lines : SolvedLines) → file.comment_line + length (drop at bytes) ≤ length bytes + 1 → ReadsBehind bytes file (drop at bytes) lines
      → AreNumbered bytes lines
  behind_numbered file at _ le (unnamed missing) = record { verdict = omega (arith, le, small); annotation = tt }
  behind_numbered file at _ le (named body all reads) = record {
    verdict = omega (arith, le, small);
    annotation = place_fits bytes (file.comment_line + 1 + length (drop at bytes) + 5) body.rest.annotation (body_fits true (file.comment_line + 1) (drop at bytes) body reads) (omega (arith, le, small));
  }

  -- the lines that are read of bytes have numbers
  pub numbered : (lines : SolvedLines) → Reads bytes lines → AreNumbered bytes lines
  numbered _ (without_circuit body begins reads) = record {
    verdict = omega arith;
    annotation = place_fits bytes (1 + length bytes + 5) body.rest.annotation (body_fits false 1 bytes body reads) (omega (arith, small));
  }
  numbered _ (of_fault fault begins first) = record { verdict = omega arith; annotation = tt }
  numbered _ (uncommented file begins states none) = record { verdict = omega arith; annotation = tt }
  numbered _ (commented file at lines begins states some reads) = behind_numbered file at lines (comment_fits bytes file at states some) reads
