-- The five or six lines of a document before its logs, read one after the other (this project's own).
use Rattle.std.specs.Prelude.{ℕ, ◌+◌, ◌-◌, ◌^◌, Bool, true, false, Option, Some, None, List, [], length, drop, codes, min, nat_le, nat_eq, option_map, option_and_then, if◌then◌else◌}
use Rattle.std.specs.List.{starts_with}
use Rattle.std.specs.Option.{option_or}
use Rattle.std.specs.Str.{bytes_eq}
use Rattle.letters_and_lassos.specs.declared.kinds.Kind.{Kind}
use Rattle.letters_and_lassos.specs.declared.kinds.Kind.TheVariants.{Mealy, Moore}
use Rattle.letters_and_lassos.specs.declared.kinds.Side.{Side}
use Rattle.letters_and_lassos.specs.declared.kinds.Side.TheVariants.{System, Environment}
use Rattle.aiger_text.specs.Words.{cut_at, is_numeral, number_within}
use Rattle.names_and_numbers.specs.Numerals.{decimal_value}
use Rattle.document_text.specs.declared.documents.Verdict.{Verdict}
use Rattle.document_text.specs.declared.documents.Verdict.TheVariants.{Machine, Unknown}
use Rattle.document_text.specs.declared.header.Header.{Header}
use Rattle.document_text.specs.Lines.{machine_words, unknown_words}
use Rattle.document_text.specs.Order.{has_its_place, fits_version, fits_max, is_version, may_tell_found, place}

-- what follows these bytes at a line's begin
abbrev pub behind : List ℕ → List ℕ → Option (List ℕ)
behind front line = if starts_with nat_eq line front then Some (drop (length front) line) else None

-- a number that is in a range
abbrev pub in_range : ℕ → ℕ → List ℕ → Option ℕ
in_range least most word = option_and_then (λ n. if nat_le least n then Some n else None) (number_within most word)

-- any number, a larger one than 32 bits hold standing for their greatest
abbrev pub capped : List ℕ → Option ℕ
capped word = if is_numeral word then Some (min (decimal_value word) (2 ^ 32 - 1)) else None

-- == one line ==

abbrev pub version_number : List ℕ → Option ℕ
version_number word = option_and_then (λ n. if is_version n then Some n else None) (in_range 1 5 word)

abbrev pub version_in : List ℕ → Option ℕ
version_in line = option_and_then version_number (behind (codes "boundsyn ") line)

-- the number behind these words
abbrev pub number_behind : List ℕ → List ℕ → Option ℕ
number_behind words line = option_and_then capped (behind words line)

-- the verdict of a machine, where the line begins with the words for such a one
abbrev pub machine_in : Side → Bool → List ℕ → Option Verdict
machine_in side least line = option_map (λ n. Machine side n least) (number_behind (machine_words side least) line)

-- the verdict that names a log of this side
abbrev pub unknown_in : Side → List ℕ → Option Verdict
unknown_in side line = option_map (λ n. Unknown (Some (place side n))) (number_behind (unknown_words side) line)

abbrev pub any_verdict_in : List ℕ → Option Verdict
any_verdict_in line =
    if bytes_eq line (codes "verdict unknown sizes") then Some (Unknown None)
    else option_or (option_or (machine_in System true line) (machine_in Environment true line))
    (option_or (option_or (machine_in System false line) (machine_in Environment false line))
    (option_or (unknown_in System line) (unknown_in Environment line)))

abbrev pub verdict_in : ℕ → List ℕ → Option Verdict
verdict_in version line = option_and_then (λ verdict. if fits_version version verdict then Some verdict else None) (any_verdict_in line)

abbrev pub kind_in : List ℕ → Option Kind
kind_in line = if bytes_eq line (codes "kind Mealy") then Some Mealy else (if bytes_eq line (codes "kind Moore") then Some Moore else None)

abbrev pub max_in : List ℕ → Option ℕ
max_in line = option_and_then (in_range 1 8) (behind (codes "max ") line)

abbrev pub entries_in : List ℕ → Option (Option ℕ)
entries_in line =
    if bytes_eq line (codes "entries none") then Some None
    else option_and_then (λ word. option_map (λ n. Some n) (number_within 250000 word)) (behind (codes "entries ") line)

abbrev pub found_in : ℕ → List ℕ → Option ℕ
found_in max line = option_and_then (in_range 2 max) (behind (codes "found ") line)

-- what the first line states, and the bytes behind it
abbrev pub front : {X : Type 0} → (List ℕ → Option X) → List ℕ → Option (X × List ℕ)
front reading bytes = option_and_then (λ cut. option_map (λ x. (x, cut.1)) (reading cut.0)) (cut_at 10 bytes)

-- == the lines in order ==

-- what was read of the header, and the bytes behind it
pub record HeaderRead : Type 0 where
  pub header : Header
  pub rest : List ℕ

abbrev pub no_header : Header
no_header = record { version = None; verdict = None; kind = None; max = None; entries = None; found = 0; bad = None }

-- line n is the first bad one
abbrev pub bad_at : Header → ℕ → HeaderRead
bad_at header n = record { header = record header { bad = Some n }; rest = [] }

-- a machine that was found, or the line is one behind the header
abbrev pub on_found : Header → List ℕ → Option (ℕ × List ℕ) → HeaderRead
on_found header bytes None = record { header = header; rest = bytes }
on_found header bytes (Some read) = record { header = record header { found = read.0 }; rest = read.1 }

abbrev pub found_at : Header → Bool → ℕ → List ℕ → HeaderRead
found_at header true max bytes = on_found header bytes (front (found_in max) bytes)
found_at header false max bytes = record { header = header; rest = bytes }

abbrev pub on_entries : Header → ℕ → ℕ → Verdict → ℕ → Option (Option ℕ × List ℕ) → HeaderRead
on_entries header first version verdict max None = bad_at header (first + 4)
on_entries header first version verdict max (Some read) =
    found_at (record header { entries = Some read.0 }) (may_tell_found version verdict) max read.1

-- the verdict's number can be tested once the greatest one is known
abbrev pub on_max : Header → ℕ → ℕ → Verdict → Option (ℕ × List ℕ) → HeaderRead
on_max header first version verdict None = bad_at header (first + 3)
on_max header first version verdict (Some read) =
    if fits_max read.0 verdict
    then on_entries (record header { max = Some read.0 }) first version verdict read.0 (front entries_in read.1)
    else bad_at (record header { max = Some read.0 }) (first + 1)

abbrev pub on_kind : Header → ℕ → ℕ → Verdict → Option (Kind × List ℕ) → HeaderRead
on_kind header first version verdict None = bad_at header (first + 2)
on_kind header first version verdict (Some read) =
    on_max (record header { kind = Some read.0 }) first version verdict (front max_in read.1)

abbrev pub on_verdict : Header → Bool → ℕ → ℕ → Option (Verdict × List ℕ) → HeaderRead
on_verdict header circuit first version None = bad_at header (first + 1)
on_verdict header circuit first version (Some read) =
    if has_its_place circuit read.0
    then on_kind (record header { verdict = Some read.0 }) first version read.0 (front kind_in read.1)
    else bad_at (record header { verdict = Some read.0 }) (first + 1)

abbrev pub on_version : Bool → ℕ → Option (ℕ × List ℕ) → HeaderRead
on_version circuit first None = bad_at no_header first
on_version circuit first (Some read) =
    on_verdict (record no_header { version = Some read.0 }) circuit first read.0 (front (verdict_in read.0) read.1)

-- what the lines from line `first` on state, behind a circuit or without one, and the first bad line of them. A verdict that
-- has a circuit where there is none, or none where there is one, fails at its line; so does a verdict's number.
abbrev pub header_of : Bool → ℕ → List ℕ → HeaderRead
header_of circuit first bytes = on_version circuit first (front version_in bytes)
