-- The text of a document of version 6 (this project's own): the circuit with its names and the line `c`, where there is a circuit,
-- and then the lines below. Numbers have no leading zeros, one space stands between words, and each line is ended by LF.
use Rattle.std.specs.Prelude.{ℕ, Bool, true, false, List, [], ◌∷◌, ◌++◌, length, map, codes, decimal, flat_map}
use Rattle.std.specs.List.{join_with_byte}
use Rattle.letters_and_lassos.specs.declared.kinds.Kind.{Kind}
use Rattle.letters_and_lassos.specs.declared.kinds.Kind.TheVariants.{Mealy, Moore}
use Rattle.refutation_log.specs.Text.{log_text}
use Rattle.aiger_text.specs.CircuitText.{numbers_line, text_of_lines}
use Rattle.document_text.specs.Lines.{circuit_part, end_text, kind_line}
use Rattle.solved_text.specs.declared.documents.Verdict.{Verdict}
use Rattle.solved_text.specs.declared.documents.Verdict.TheVariants.{Realizable, Unrealizable, Unknown}
use Rattle.solved_text.specs.declared.letters.Letters.{Letters}
use Rattle.solved_text.specs.declared.letters.Letters.TheVariants.{All, Few}
use Rattle.solved_text.specs.Parts.{SizeLog, Document}

-- the first line
abbrev pub version_text : List ℕ
version_text = text_of_lines (codes "boundsyn 6" ∷ [])

abbrev pub verdict_line : Verdict → List ℕ
verdict_line (Realizable n) = codes "verdict realizable " ++ decimal n
verdict_line (Unrealizable n) = codes "verdict unrealizable " ++ decimal n
verdict_line Unknown = codes "verdict unknown"

-- the semantics of a converted text, which is of the other kind than its machines
abbrev pub semantics_line : Kind → List ℕ
semantics_line Mealy = codes "semantics Moore"
semantics_line Moore = codes "semantics Mealy"

abbrev pub semantics_text : Kind → List ℕ
semantics_text kind = text_of_lines (semantics_line kind ∷ [])

-- there is no such line where the text isn't converted
abbrev pub semantics_part : Bool → Kind → List ℕ
semantics_part true kind = semantics_text kind
semantics_part false kind = []

-- how many sizes are refuted, from 1 up
abbrev pub refuted_line : ℕ → List ℕ
refuted_line refuted = codes "refuted " ++ decimal refuted

-- the letters of a log: all, or the numbers of some with commas between
abbrev pub letters_word : Letters → List ℕ
letters_word All = codes "all"
letters_word (Few letters) = join_with_byte 44 (map decimal letters)

-- the head of a log: size, letters, variables, base clauses, entries
abbrev pub head_line : ℕ → Letters → ℕ → ℕ → ℕ → List ℕ
head_line size letters vars base count =
    codes "log " ++ (decimal size ++ 32 ∷ (letters_word letters ++ 32 ∷ numbers_line (vars ∷ base ∷ count ∷ [])))

-- a log's head, and a line for each of its entries
abbrev pub log_part : SizeLog → List ℕ
log_part l = text_of_lines (head_line l.size l.letters l.vars l.base (length l.entries) ∷ []) ++ log_text l.entries

abbrev pub header_text : Document → List ℕ
header_text d = version_text ++ (text_of_lines (verdict_line d.verdict ∷ kind_line d.kind ∷ []) ++ semantics_part d.converted d.kind)

-- the lines behind the header: with a circuit how many sizes are refuted, their logs and the annotation, which ends the document;
-- else the line `end`
abbrev pub rest_text : Verdict → List SizeLog → List ℕ → List ℕ
rest_text (Realizable n) logs annotation = text_of_lines (refuted_line (length logs) ∷ []) ++ (flat_map log_part logs ++ annotation)
rest_text (Unrealizable n) logs annotation = text_of_lines (refuted_line (length logs) ∷ []) ++ (flat_map log_part logs ++ annotation)
rest_text Unknown logs annotation = end_text

-- the lines behind the circuit
abbrev pub body_text : Document → List ℕ
body_text d = header_text d ++ rest_text d.verdict d.logs d.annotation

abbrev pub document_text : Document → List ℕ
document_text d = circuit_part d.circuit ++ body_text d
