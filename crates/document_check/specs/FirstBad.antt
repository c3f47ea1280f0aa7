-- The first line of a document that fails for a text (this project's own). Each test has at most one line at which it fails; the
-- smallest of these lines is the first bad one. What a verdict says of the logs is tested last.
use Rattle.std.specs.Prelude.{◌≡◌, ◌==◌, ℕ, ◌+◌, Bool, true, false, ◌&&◌, ◌||◌, Option, Some, None, List, [], ◌∷◌, length, nat_le, MatchOption, option_map, option_and_then, if◌then◌else◌}
use Rattle.std.specs.Option.{option_or, option_map_or}
use Rattle.letters_and_lassos.specs.declared.kinds.Kind.{Kind}
use Rattle.letters_and_lassos.specs.declared.kinds.Side.{Side}
use Rattle.letters_and_lassos.specs.declared.kinds.Side.TheVariants.{System, Environment}
use Rattle.machine_model.specs.declared.problems.Problem.{Problem}
use Rattle.annotation_encode.specs.BaseClauses.{base_clauses}
use Rattle.annotation_encode.specs.Count.{count_of}
use Rattle.annotation_encode.specs.Variables.{variables_of}
use Rattle.refutation_log.specs.declared.entries.Entry.{Entry}
use Rattle.refutation_log.specs.Log.{is_ended, IsLegal}
use Rattle.refutation_log.specs.Turn.{is_at_limit}
use Rattle.log_checker.specs.declared.faults.LogFault.{LogFault}
use Rattle.log_checker.specs.declared.faults.LogFault.TheVariants.{BadHint, NotFalsified, Repeated, NotClosed, AfterEnd, OverLimit, NoMemory}
use Rattle.log_checker.specs.Faults.{IsLogFault}
use Rattle.aiger_text.specs.CircuitFile.{File}
use Rattle.document_text.specs.declared.documents.Verdict.{Verdict}
use Rattle.document_text.specs.declared.header.Header.{Header}
use Rattle.document_text.specs.declared.reading.CircuitPart.{CircuitPart}
use Rattle.document_text.specs.declared.reading.CircuitPart.TheVariants.{Absent, Faulty, Stated}
use Rattle.document_text.specs.Parts.{LogPart}
use Rattle.letters_and_lassos.specs.contracts.kinds.SidePartialEq.TheImpl.{ghosts as side_ghosts}
use Rattle.document_text.specs.Order.{order_of}
use Rattle.document_text.specs.Reading.{DocumentLines, Reads}
use Rattle.document_check.specs.declared.facts.Asked.{Asked}
use Rattle.circuit_names.specs.Lines as names
use Rattle.circuit_names.specs.Lines.{earliest}
use Rattle.document_text.specs.declared.order.Place.{Place}
use Rattle.document_check.specs.Facts.{Facts, names_in, problem_at, allowed_at, wanted_sizes, circuit_side}
use Rattle.document_check.specs.Holds.{is_allowed, may_be_full, first_open, names_open}

-- == the circuit ==

-- the line at which a circuit without fault, of this side, has other numbers of signals or other names than the text
abbrev pub stated_line : Facts → Side → File → Option ℕ
stated_line facts side file = names.stated_line (names_in facts) side file

-- the same of the bytes of a circuit that has a fault, whose verdict isn't reached: the names are those of a system's
abbrev pub faulty_line : Facts → List ℕ → Option ℕ
faulty_line facts bytes = names.faulty_line (names_in facts) bytes

-- the side of the circuit, where a verdict is reached
abbrev pub side_in : Header → Side
side_in header = option_map_or circuit_side header.verdict System

abbrev pub circuit_line : Facts → List ℕ → Header → CircuitPart → Option ℕ
circuit_line facts bytes header Absent = None
circuit_line facts bytes header Faulty = faulty_line facts bytes
circuit_line facts bytes header (Stated file) = stated_line facts (side_in header) file

-- == the numbers ==

-- what a document asks for, once its line `max` is good
abbrev pub asked_in : Header → Option Asked
asked_in h =
    option_and_then (λ version. option_and_then (λ verdict. option_and_then (λ kind.
    option_map (λ max. record { version = version; verdict = verdict; kind = kind; max = max }) h.max) h.kind) h.verdict) h.version

-- the numbers of allowed sizes
abbrev pub system_sizes : Facts → Asked → ℕ
system_sizes facts a = allowed_at facts a.kind a.version a.max System

abbrev pub environment_sizes : Facts → Asked → ℕ
environment_sizes facts a = allowed_at facts a.kind a.version a.max Environment

-- the line of a verdict whose number passes the allowed sizes, else that of a machine that was found and has more states
abbrev pub number_line : Verdict → ℕ → ℕ → ℕ → ℕ → Option ℕ
number_line verdict found system environment line =
    if is_allowed verdict system environment then (if nat_le found system then None else Some (line + 4)) else Some line

-- == the logs ==

-- the entry that a fault names
abbrev pub entry_of : LogFault → ℕ
entry_of (BadHint e) = e
entry_of (NotFalsified e) = e
entry_of (Repeated e) = e
entry_of NotClosed = 0
entry_of (AfterEnd e) = e
entry_of (OverLimit e) = e
entry_of NoMemory = 0

-- a legal log is closed, or has as many entries as the limit where that suffices
abbrev pub suffices : Bool → Option ℕ → List Entry → Bool
suffices full limit entries = is_ended entries || (full && is_at_limit limit entries)

abbrev pub has_numbers : LogPart → Problem → Bool
has_numbers l p = (l.vars == variables_of p) && option_map_or (λ n. l.base == n) (count_of p) false

-- The line at which a log fails over a problem: that of its head where its numbers aren't the problem's, that of its first entry that
-- isn't legal, or the one behind its last entry where it had to be closed, or full.
pub data LogFails (full : Bool) (limit : Option ℕ) (l : LogPart) (p : Problem) : Option ℕ → Type 0 where
  other_numbers : has_numbers l p ≡ false → LogFails full limit l p (Some l.line)
  bad_entry : (fault : LogFault) → has_numbers l p ≡ true → IsLogFault (base_clauses p) limit l.entries fault
      → LogFails full limit l p (Some (l.line + 1 + entry_of fault))
  left_open : has_numbers l p ≡ true → IsLegal (variables_of p) (base_clauses p) limit l.entries → suffices full limit l.entries ≡ false
      → LogFails full limit l p (Some (l.line + 1 + length l.entries))
  is_good : has_numbers l p ≡ true → IsLegal (variables_of p) (base_clauses p) limit l.entries → suffices full limit l.entries ≡ true
      → LogFails full limit l p None

abbrev pub is_size_of : Place → LogPart → Bool
is_size_of s l = side_ghosts.eq s.side l.side && (s.size == l.size)

-- The first line at which the logs fail, of which these sizes are wanted: a further log, a log of another size or of a side without
-- a problem, one that fails itself, and at `end` a log that is missing.
pub data LogsFail (facts : Facts) (kind : Kind) (version : ℕ) (full : Bool) (limit : Option ℕ) (end : ℕ) : List Place → List LogPart → Option ℕ → Type 0 where
  all_there : LogsFail facts kind version full limit end [] [] None
  one_missing : (s : Place) (sizes : List Place) → LogsFail facts kind version full limit end (s ∷ sizes) [] (Some end)
  one_more : (l : LogPart) (logs : List LogPart) → LogsFail facts kind version full limit end [] (l ∷ logs) (Some l.line)
  another : (s : Place) (sizes : List Place) (l : LogPart) (logs : List LogPart) → is_size_of s l ≡ false
      → LogsFail facts kind version full limit end (s ∷ sizes) (l ∷ logs) (Some l.line)
  no_problem : (s : Place) (sizes : List Place) (l : LogPart) (logs : List LogPart) → is_size_of s l ≡ true
      → problem_at facts kind version l.side l.size ≡ None → LogsFail facts kind version full limit end (s ∷ sizes) (l ∷ logs) (Some l.line)
  one_fails : (s : Place) (sizes : List Place) (l : LogPart) (logs : List LogPart) (p : Problem) (n : ℕ) → is_size_of s l ≡ true
      → problem_at facts kind version l.side l.size ≡ Some p → LogFails full limit l p (Some n)
      → LogsFail facts kind version full limit end (s ∷ sizes) (l ∷ logs) (Some n)
  one_good : (s : Place) (sizes : List Place) (l : LogPart) (logs : List LogPart) (p : Problem) (first : Option ℕ) → is_size_of s l ≡ true
      → problem_at facts kind version l.side l.size ≡ Some p → LogFails full limit l p None
      → LogsFail facts kind version full limit end sizes logs first
      → LogsFail facts kind version full limit end (s ∷ sizes) (l ∷ logs) first

-- the line behind logs from line n on
abbrev pub line_behind : ℕ → List LogPart → ℕ
line_behind n [] = n
line_behind n (l ∷ logs) = line_behind (l.line + 1 + length l.entries) logs

-- The line behind the logs that were read, in which the document has `end` where nothing before it is bad. A line that isn't what is
-- wanted among the logs is this one too.
abbrev pub end_line : DocumentLines → ℕ
end_line lines = line_behind (lines.verdict_line + (if lines.header.found == 0 then 4 else 5)) lines.logs

-- a whole header's logs
abbrev pub wanted_in : Facts → Asked → ℕ → List Place
wanted_in facts a found = wanted_sizes (order_of a.version a.verdict a.max found) (system_sizes facts a) (environment_sizes facts a)

-- the first line at which the logs fail; without a whole header there are none
abbrev pub LogsFailIn : Facts → DocumentLines → Asked → Option ℕ → Type 0
LogsFailIn facts lines a first =
    MatchOption lines.header.entries (first ≡ None) (λ limit.
    LogsFail facts a.kind a.version (may_be_full a.verdict) limit (end_line lines) (wanted_in facts a lines.header.found) lines.logs first)

-- == the document ==

-- the first line that fails, of those that are tested once the line `max` is good
pub record FailsBehind (facts : Facts) (lines : DocumentLines) (a : Asked) (first : Option ℕ) : Type 0 where
  pub logs : Option ℕ
  pub logs_fail : LogsFailIn facts lines a logs
  pub first_is : first ≡ earliest (number_line a.verdict lines.header.found (system_sizes facts a) (environment_sizes facts a) lines.verdict_line) logs

abbrev pub FailsIn : Facts → DocumentLines → Option ℕ → Type 0
FailsIn facts lines first = MatchOption (asked_in lines.header) (first ≡ None) (λ a. FailsBehind facts lines a first)

-- the verdict's line, where it names another log than the first that isn't closed
abbrev pub last_line : DocumentLines → Option ℕ
last_line lines =
    option_map_or (λ verdict. if names_open verdict (first_open lines.logs) then None else Some lines.verdict_line) lines.header.verdict None

-- the first line at which the lines fail that were read of the bytes, if any
pub record Fails (facts : Facts) (bytes : List ℕ) (lines : DocumentLines) (first : Option ℕ) : Type 0 where
  pub behind : Option ℕ
  pub fails : FailsIn facts lines behind
  pub first_is : first ≡ option_or (earliest (circuit_line facts bytes lines.header lines.circuit) (earliest lines.bad behind)) (last_line lines)

-- line n is the first bad line of the bytes for this text
pub record IsFirstBadFor (facts : Facts) (bytes : List ℕ) (n : ℕ) : Type 0 where
  pub lines : DocumentLines
  pub reads : Reads bytes lines
  pub fails : Fails facts bytes lines (Some n)
