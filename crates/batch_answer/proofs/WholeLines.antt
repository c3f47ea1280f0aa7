-- Answers are whole lines.
use Rattle.std.proofs.Common.{◌≡◌, ℕ, List, [], ◌∷◌, ◌++◌, take, refl, sym, ◌∙◌, ap, subst}
use Rattle.std.specs.Prelude.{Option, Some, None, codes, decimal}
use Rattle.std.specs.List.{flat_map}
use Rattle.std.proofs.lemmas.List.{append_assoc, take-append-drop}
use Rattle.spec_faults.specs.declared.code.SpecCode.{SpecCode}
use Rattle.spec_faults.specs.Codes.{name_of, code_number}
use Rattle.program_replies.specs.Lines.{refusal_line}
use Rattle.document_text.specs.Parts.{Document}
use Rattle.document_text.specs.Lines.{body_text, end_text, header_text, part_text}
use Rattle.document_text.specs.States.{HasText}
use Rattle.synth_answer.specs.Printed.{Printed}
use Rattle.synth_answer.specs.Answer.{Answers, refused, realizable, unrealizable, bounded, no_size, no_entries}
use Rattle.batch_answer.specs.Batch.{AreLines}
use Rattle.batch_answer.specs.Laws.{AnswersAreLines}

-- whole lines behind other bytes
lines_behind : (front : List ℕ) (byte : ℕ) (bytes : List ℕ) → AreLines (byte ∷ bytes) → AreLines (front ++ byte ∷ bytes)
lines_behind [] byte bytes are = are
lines_behind (x ∷ []) byte bytes are = are
lines_behind (x ∷ y ∷ front) byte bytes are = lines_behind (y ∷ front) byte bytes are

refusal_is_lines : (code : SpecCode) (position : ℕ) → AreLines (refusal_line code position)
refusal_is_lines code position =
    lines_behind (codes "refused " ++ decimal (code_number code) ++ codes " " ++ name_of code ++ codes " at " ++ decimal position) 10 [] refl

body_is_lines : (front : List ℕ) (d : Document) → AreLines (front ++ body_text d)
body_is_lines front d =
    let logs = flat_map part_text d.logs in
    let whole : (front ++ header_text d ++ logs) ++ end_text ≡ front ++ body_text d =
    append_assoc (front ++ header_text d) logs end_text ∙ append_assoc front (header_text d) (logs ++ end_text) in
    subst AreLines whole (lines_behind (front ++ header_text d ++ logs) 101 (110 ∷ 100 ∷ 10 ∷ []) refl)

text_is_lines : (bytes : List ℕ) (d : Document) (c : Option _) → HasText bytes c d → AreLines bytes
text_is_lines bytes d None text = subst AreLines (sym text.0) (body_is_lines [] d)
text_is_lines bytes d (Some c) text =
    let whole : take text.at bytes ++ body_text d ≡ bytes = ap (λ l. take text.at bytes ++ l) (sym text.body) ∙ take-append-drop text.at bytes in
    subst AreLines whole (body_is_lines (take text.at bytes) d)

pub answers_are_lines : AnswersAreLines
answers_are_lines text kind settings bytes status answer = by answer
  where
    of_document : Printed text kind settings bytes → AreLines bytes
    of_document p = text_is_lines bytes p.document p.document.circuit p.is_printed.states.text

    by : Answers text kind settings bytes status → AreLines bytes
    by (refused code position is fault line) = subst AreLines (sym line) (refusal_is_lines code position)
    by (realizable p n c is holds) = of_document p
    by (unrealizable p n c is holds) = of_document p
    by (bounded p side n c is holds) = of_document p
    by (no_size p is holds) = of_document p
    by (no_entries p side n is holds) = of_document p
