-- The line that tells of a document of version 6 that is accepted (this project's own).
use Rattle.std.specs.Prelude.{◌==◌, ℕ, ◌+◌, Option, Some, None, List, [], ◌++◌, codes, decimal, length, if◌then◌else◌}
use Rattle.letters_and_lassos.specs.declared.kinds.Kind.{Kind}
use Rattle.letters_and_lassos.specs.Kinds.{kind_word}
use Rattle.solve_ground.specs.declared.texts.SolveText.{SolveText}
use Rattle.solved_text.specs.declared.documents.Verdict.{Verdict}
use Rattle.solved_text.specs.declared.documents.Verdict.TheVariants.{Realizable, Unrealizable, Unknown}
use Rattle.solved_text.specs.Parts.{Document}
use Rattle.solve_check.specs.declared.acceptance.Acceptance.{Acceptance}

-- what is told of a document that holds for the text
abbrev pub acceptance_of : SolveText → Document → Acceptance
acceptance_of t d = record { verdict = d.verdict; kind = d.kind; semantics = t.semantics; refuted = length d.logs }

abbrev pub verdict_words : Verdict → List ℕ
verdict_words (Realizable n) = codes "realizable " ++ decimal n
verdict_words (Unrealizable n) = codes "unrealizable " ++ decimal n
verdict_words Unknown = codes "unknown"

-- the SEMANTICS of a text that was converted
abbrev pub semantics_words : Option Kind → List ℕ
semantics_words None = []
semantics_words (Some kind) = codes " of " ++ kind_word kind ++ codes " semantics"

-- whether n states are the fewest, where the sizes from 1 to this number are refuted
abbrev pub fewer_words : ℕ → ℕ → List ℕ
fewer_words n refuted =
    if refuted + 1 == n then codes ", smallest"
    else (if refuted == 0 then codes ", smaller ones open" else codes ", none of " ++ decimal refuted ++ codes " or fewer")

abbrev pub sizes_words : Verdict → ℕ → List ℕ
sizes_words (Realizable n) refuted = fewer_words n refuted
sizes_words (Unrealizable n) refuted = fewer_words n refuted
sizes_words Unknown refuted = []

abbrev pub accepted_line : Acceptance → List ℕ
accepted_line a =
    codes "accepted " ++ verdict_words a.verdict ++ codes " as " ++ kind_word a.kind ++ semantics_words a.semantics
    ++ sizes_words a.verdict a.refuted ++ codes "\n"
