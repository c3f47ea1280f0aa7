-- What the reader has is what is read, and it fits.
use Rattle.std.proofs.Common.{◌≡◌, ℕ, ◌+◌, ◌*◌, ◌<◌, ◌≤◌, ◌^◌, Option, Some, None, List, [], length, refl, sym, ap, subst, ◌∙◌, arith, Bor}
use Rattle.std.specs.Prelude.{All, IfSome}
use Rattle.witness_text.specs.declared.lines.Following.{Following}
use Rattle.witness_text.specs.Logs.{LogsRead, ReadsLogs}
use Rattle.witness_text.specs.Places.{IsNumbered, lines_of_logs}
use Rattle.witness_text.specs.Reading.{Reads, WitnessLines, bad_behind_logs, lines_with, no_logs, obligations, of_logs, of_statement}
use Rattle.witness_text.specs.Statement.{Statement, lines_of, one_line, statement_in}
use Rattle.witness_text.specs.States.{IsLog, IsReadWell}
use Rattle.witness_text.proofs.LogLemmas.{AreRead, logs_are_read}
use Rattle.witness_text.proofs.StatementLemmas.{IsRead, statement_is_read}

-- ---- lines are bytes

pub statement_lines : (bytes : List ℕ) (s : Statement) → s ≡ statement_in bytes → lines_of s ≤ length bytes
statement_lines bytes s is =
    let lines = (statement_is_read bytes).lines in
    let here : lines_of (statement_in bytes) ≤ length bytes = omega (arith, lines) in
    subst (λ (s : Statement). lines_of s ≤ length bytes) (sym is) here

rest_lines : (bytes text : List ℕ) → (statement_in bytes).rest ≡ Some text → lines_of (statement_in bytes) + length text ≤ length bytes
rest_lines bytes text some =
    let r = statement_is_read bytes in
    subst (λ (left : List ℕ). lines_of (statement_in bytes) + length left ≤ length bytes) (r.whole text some).0 r.lines

pub text_lines : (bytes text : List ℕ) (s : Statement) → s ≡ statement_in bytes → s.rest ≡ Some text → lines_of s + length text ≤ length bytes
text_lines bytes text s is some =
    subst (λ (s : Statement). lines_of s + length text ≤ length bytes) (sym is) (rest_lines bytes text (ap (λ (s : Statement). s.rest) (sym is) ∙ some))

pub few_parts : (bytes : List ℕ) (s : Statement) → s ≡ statement_in bytes → length s.parts ≤ 256
few_parts bytes s is = subst (λ (s : Statement). length s.parts ≤ 256) (sym is) (statement_is_read bytes).few_parts

pub logs_line : (count n : ℕ) (text : List ℕ) (read : LogsRead) → ReadsLogs count 0 n text read → read.line ≤ n + length text
logs_line count n text read reads = (logs_are_read count 0 n text read (omega arith) reads).lines

pub room : (n : ℕ) (rest : Option (Bor (List ℕ))) → n + 1 < 2 ^ 64 → IfSome rest (λ text. n + 1 < 2 ^ 64)
room n None small = tt
room n (Some text) small = small

-- ---- what is read

module _ (f : Following) (first : ℕ) (bytes : List ℕ) (s : Statement) (is : s ≡ statement_in bytes) where
  pub read_none : (read : LogsRead) (line : ℕ) (lines : WitnessLines) → s.rest ≡ None → line ≡ first + lines_of s → read ≡ no_logs line → lines ≡ lines_with first s read (Some line)
      → Reads f first bytes lines
  read_none read line lines none at are lines_are =
      let here : Reads f first bytes (lines_with first s (no_logs (first + lines_of s)) (Some (first + lines_of s))) =
      subst (λ (t : Statement). Reads f first bytes (lines_with first t (no_logs (first + lines_of t)) (Some (first + lines_of t)))) (sym is)
      (of_statement (ap (λ (s : Statement). s.rest) (sym is) ∙ none)) in
      let logs : no_logs (first + lines_of s) ≡ read = ap no_logs (sym at) ∙ sym are in
      subst (λ (lines : WitnessLines). Reads f first bytes lines) ((λ i. lines_with first s (logs i) (Some (sym at i))) ∙ sym lines_are) here

  pub read_some : (text : List ℕ) (read : LogsRead) (bad : Option ℕ) (lines : WitnessLines) → s.rest ≡ Some text
      → ReadsLogs (3 + 3 * length s.parts) 0 (first + lines_of s) text read → bad ≡ bad_behind_logs f read.line read.rest → lines ≡ lines_with first s read bad
      → Reads f first bytes lines
  read_some text read bad lines some reads bad_is lines_are =
      let there : ReadsLogs (obligations (length (statement_in bytes).parts)) 0 (first + lines_of (statement_in bytes)) text read =
      subst (λ (s : Statement). ReadsLogs (obligations (length s.parts)) 0 (first + lines_of s) text read) is reads in
      let here : Reads f first bytes (lines_with first (statement_in bytes) read (bad_behind_logs f read.line read.rest)) =
      of_logs text read (ap (λ (s : Statement). s.rest) (sym is) ∙ some) there in
      subst (λ (lines : WitnessLines). Reads f first bytes lines) ((λ i. lines_with first (sym is i) read (sym bad_is i)) ∙ sym lines_are) here

-- ---- it fits

module _ (f : Following) (first : ℕ) (bytes : List ℕ) where
  statement_fits : (read : LogsRead) → first + lines_of (statement_in bytes) + lines_of_logs read.logs ≤ first + length bytes → first + length bytes + 8 < 2 ^ 64 → (bad : Option ℕ)
      → IsNumbered (lines_with first (statement_in bytes) read bad)
  statement_fits read lines small bad = omega (arith, lines, small)

  pub numbered : (lines : WitnessLines) → first + length bytes + 8 < 2 ^ 64 → Reads f first bytes lines → IsNumbered lines
  numbered lines small (of_statement none) =
      let fits = (statement_is_read bytes).lines in
      statement_fits (no_logs (first + lines_of (statement_in bytes))) (omega (arith, fits)) small (Some (first + lines_of (statement_in bytes)))
  numbered lines small (of_logs text read some reads) =
      let fits = rest_lines bytes text some in
      let are = logs_are_read (obligations (length (statement_in bytes).parts)) 0 (first + lines_of (statement_in bytes)) text read (omega arith) reads in
      let line = are.line_is in
      let within = are.lines in
      statement_fits read (omega (arith, fits, line, within)) small (bad_behind_logs f read.line read.rest)

  with_read : (read : LogsRead) (bad : Option ℕ) → length read.logs ≤ obligations (length (statement_in bytes).parts) → All IsLog read.logs
      → IsReadWell (lines_with first (statement_in bytes) read bad)
  with_read read bad few all =
      let r = statement_is_read bytes in
      record {
        counts = r.counts;
        few_latches = r.few_latches;
        few_gates = r.few_gates;
        few_parts = r.few_parts;
        latches = r.latches;
        gates = r.gates;
        parts = r.parts;
        few_logs = few;
        logs = all;
      }

  pub well : (lines : WitnessLines) → Reads f first bytes lines → IsReadWell lines
  well lines (of_statement none) =
      with_read (no_logs (first + lines_of (statement_in bytes))) (Some (first + lines_of (statement_in bytes))) (omega arith) (λ k d less. absurd (omega arith))
  well lines (of_logs text read some reads) =
      let are = logs_are_read (obligations (length (statement_in bytes).parts)) 0 (first + lines_of (statement_in bytes)) text read (omega arith) reads in
      let few = are.few in
      with_read read (bad_behind_logs f read.line read.rest) (omega (arith, few)) are.all
