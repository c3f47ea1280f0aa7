-- The lines of a document of version 6 before its logs, read one after the other (this project's own).
use Rattle.std.specs.Prelude.{ℕ, ◌+◌, ◌-◌, Bool, true, false, not, ◌&&◌, Option, Some, None, List, [], codes, option_map, option_and_then, if◌then◌else◌}
use Rattle.std.specs.Option.{option_or}
use Rattle.std.specs.Str.{bytes_eq}
use Rattle.letters_and_lassos.specs.declared.kinds.Kind.{Kind}
use Rattle.aiger_text.specs.Words.{number_within}
use Rattle.document_text.specs.Header.{behind, front, kind_in, number_behind}
use Rattle.document_text.specs.Order.{is_in_range}
use Rattle.solved_text.specs.declared.documents.Verdict.{Verdict}
use Rattle.solved_text.specs.declared.documents.Verdict.TheVariants.{Realizable, Unrealizable, Unknown}
use Rattle.solved_text.specs.declared.header.Header.{Header}
use Rattle.solved_text.specs.Lines.{version_text, semantics_text}

-- == one line ==

-- a verdict, whose number may have any length: a larger one than 32 bits hold is read as their greatest
abbrev pub verdict_in : List ℕ → Option Verdict
verdict_in line =
    if bytes_eq line (codes "verdict unknown") then Some Unknown
    else option_or (option_map Realizable (number_behind (codes "verdict realizable ") line))
    (option_map Unrealizable (number_behind (codes "verdict unrealizable ") line))

-- a document with this verdict has a circuit
abbrev pub has_circuit : Verdict → Bool
has_circuit (Realizable n) = true
has_circuit (Unrealizable n) = true
has_circuit Unknown = false

-- the verdict stands behind a circuit, or where there is none, as it wants
abbrev pub has_its_place : Bool → Verdict → Bool
has_its_place circuit verdict = if circuit then has_circuit verdict else not (has_circuit verdict)

-- the most states that a document tells of
abbrev pub most_states : ℕ
most_states = 65536

abbrev pub is_number_of_states : ℕ → Bool
is_number_of_states n = is_in_range 1 most_states n

-- the verdict's number is one of states
abbrev pub tells_states : Verdict → Bool
tells_states (Realizable n) = is_number_of_states n
tells_states (Unrealizable n) = is_number_of_states n
tells_states Unknown = true

-- the verdict may stand there, as far as that needs no text
abbrev pub may_stand : Bool → Verdict → Bool
may_stand circuit verdict = has_its_place circuit verdict && tells_states verdict

-- the number of sizes that are refuted, which is below that of the states
abbrev pub refuted_in : ℕ → List ℕ → Option ℕ
refuted_in states line = option_and_then (number_within (states - 1)) (behind (codes "refuted ") line)

-- == the lines in order ==

-- what was read of the header, the line behind it, and the bytes from there on
pub record HeaderRead : Type 0 where
  pub header : Header
  pub line : ℕ
  pub rest : List ℕ

abbrev pub no_header : Header
no_header = record { verdict = None; kind = None; converted = false; refuted = None; bad = None }

-- line n is the first bad one
abbrev pub bad_at : Header → ℕ → HeaderRead
bad_at header n = record { header = record header { bad = Some n }; line = n; rest = [] }

-- line n says how many sizes are refuted
abbrev pub on_refuted : Header → ℕ → Option (ℕ × List ℕ) → HeaderRead
on_refuted header n None = bad_at header n
on_refuted header n (Some read) = record { header = record header { refuted = Some read.0 }; line = n + 1; rest = read.1 }

-- only with a circuit sizes are refuted
abbrev pub refuted_at : Header → ℕ → Verdict → List ℕ → HeaderRead
refuted_at header n (Realizable states) bytes = on_refuted header n (front (refuted_in states) bytes)
refuted_at header n (Unrealizable states) bytes = on_refuted header n (front (refuted_in states) bytes)
refuted_at header n Unknown bytes = record { header = header; line = n; rest = bytes }

-- the text was converted, or line n is the one behind that
abbrev pub on_semantics : Header → ℕ → Verdict → List ℕ → Option (List ℕ) → HeaderRead
on_semantics header n verdict bytes None = refuted_at header n verdict bytes
on_semantics header n verdict bytes (Some rest) = refuted_at (record header { converted = true }) (n + 1) verdict rest

abbrev pub on_kind : Header → ℕ → Verdict → Option (Kind × List ℕ) → HeaderRead
on_kind header first verdict None = bad_at header (first + 2)
on_kind header first verdict (Some read) =
    on_semantics (record header { kind = Some read.0 }) (first + 3) verdict read.1 (behind (semantics_text read.0) read.1)

abbrev pub on_verdict : Header → Bool → ℕ → Option (Verdict × List ℕ) → HeaderRead
on_verdict header circuit first None = bad_at header (first + 1)
on_verdict header circuit first (Some read) =
    if may_stand circuit read.0
    then on_kind (record header { verdict = Some read.0 }) first read.0 (front kind_in read.1)
    else bad_at (record header { verdict = Some read.0 }) (first + 1)

abbrev pub on_version : Bool → ℕ → Option (List ℕ) → HeaderRead
on_version circuit first None = bad_at no_header first
on_version circuit first (Some rest) = on_verdict no_header circuit first (front verdict_in rest)

-- what the lines from line `first` on state, behind a circuit or without one, and the first bad line of them. A verdict that has a
-- circuit where there is none, or none where there is one, fails at its line, and so does a number of states that is 0 or too
-- large; it is read all the same. A line `semantics` that names the kind of the machines isn't of its form.
abbrev pub header_of : Bool → ℕ → List ℕ → HeaderRead
header_of circuit first bytes = on_version circuit first (behind version_text bytes)
