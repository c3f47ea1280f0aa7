-- The text of a document (this project's own): the circuit with its names and the line `c`, where there is a circuit, and then
-- the lines below. Numbers have no leading zeros, one space stands between words, and each line is ended by LF.
use Rattle.std.specs.Prelude.{ℕ, zero, suc, Bool, true, false, Option, Some, None, List, [], ◌∷◌, ◌++◌, length, codes, decimal}
use Rattle.std.specs.List.{flat_map}
use Rattle.letters_and_lassos.specs.declared.kinds.Kind.{Kind}
use Rattle.letters_and_lassos.specs.declared.kinds.Kind.TheVariants.{Mealy, Moore}
use Rattle.letters_and_lassos.specs.declared.kinds.Side.{Side}
use Rattle.letters_and_lassos.specs.declared.kinds.Side.TheVariants.{System, Environment}
use Rattle.refutation_log.specs.Text.{log_text}
use Rattle.aiger_text.specs.Circuit.{Circuit}
use Rattle.aiger_text.specs.CircuitText.{circuit_text, comment_text, numbers_line, text_of_lines}
use Rattle.document_text.specs.declared.documents.Verdict.{Verdict}
use Rattle.document_text.specs.declared.documents.Verdict.TheVariants.{Machine, Unknown}
use Rattle.document_text.specs.Parts.{LogPart, Document}

abbrev pub version_line : ℕ → List ℕ
version_line version = codes "boundsyn " ++ decimal version

-- what the line of a verdict begins with that tells a machine, which is the least or needn't be
abbrev pub machine_words : Side → Bool → List ℕ
machine_words System true = codes "verdict realizable "
machine_words System false = codes "verdict bounded system "
machine_words Environment true = codes "verdict unrealizable "
machine_words Environment false = codes "verdict bounded environment "

-- what it begins with where it names a log
abbrev pub unknown_words : Side → List ℕ
unknown_words System = codes "verdict unknown entries system "
unknown_words Environment = codes "verdict unknown entries environment "

abbrev pub verdict_line : Verdict → List ℕ
verdict_line (Machine side states least) = machine_words side least ++ decimal states
verdict_line (Unknown None) = codes "verdict unknown sizes"
verdict_line (Unknown (Some first)) = unknown_words first.side ++ decimal first.size

abbrev pub kind_line : Kind → List ℕ
kind_line Mealy = codes "kind Mealy"
kind_line Moore = codes "kind Moore"

abbrev pub max_line : ℕ → List ℕ
max_line max = codes "max " ++ decimal max

abbrev pub entries_line : Option ℕ → List ℕ
entries_line None = codes "entries none"
entries_line (Some most) = codes "entries " ++ decimal most

-- there is no such line where nothing was found
abbrev pub found_lines : ℕ → List (List ℕ)
found_lines zero = []
found_lines (suc n) = (codes "found " ++ decimal (suc n)) ∷ []

abbrev pub log_words : Side → List ℕ
log_words System = codes "log system "
log_words Environment = codes "log environment "

-- the head of a log: side, size, variables, base clauses, entries
abbrev pub head_line : Side → ℕ → ℕ → ℕ → ℕ → List ℕ
head_line side size vars base count = log_words side ++ numbers_line (size ∷ vars ∷ base ∷ count ∷ [])

-- a log's head, and a line for each of its entries
abbrev pub part_text : LogPart → List ℕ
part_text l = text_of_lines (head_line l.side l.size l.vars l.base (length l.entries) ∷ []) ++ log_text l.entries

-- the line that ends a document
abbrev pub end_text : List ℕ
end_text = text_of_lines (codes "end" ∷ [])

-- the lines of the logs, and the line `end`
abbrev pub logs_text : List LogPart → List ℕ
logs_text logs = flat_map part_text logs ++ end_text

-- the lines before the logs
abbrev pub header_text : Document → List ℕ
header_text d =
    text_of_lines (version_line d.version ∷ verdict_line d.verdict ∷ kind_line d.kind ∷ max_line d.max ∷ entries_line d.entries ∷ [])
    ++ text_of_lines (found_lines d.found)

-- the lines behind the circuit
abbrev pub body_text : Document → List ℕ
body_text d = header_text d ++ logs_text d.logs

-- the circuit as it is written, and the line `c`
abbrev pub circuit_part : Option Circuit → List ℕ
circuit_part None = []
circuit_part (Some c) = circuit_text c ++ comment_text (Some [])

abbrev pub document_text : Document → List ℕ
document_text d = circuit_part d.circuit ++ body_text d
