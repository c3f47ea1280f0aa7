-- A document and what its lines hold, with lists in place of vectors (this project's own).
use Rattle.std.specs.Prelude.{ℕ, Option, List}
use Rattle.letters_and_lassos.specs.declared.kinds.Kind.{Kind}
use Rattle.letters_and_lassos.specs.declared.kinds.Side.{Side}
use Rattle.refutation_log.specs.declared.entries.Entry.{Entry}
use Rattle.aiger_text.specs.Circuit.{Circuit}
use Rattle.document_text.specs.declared.documents.Verdict.{Verdict}

-- A log of one size of one side: the numbers of variables and of base clauses, the entries, and the line of its head.
pub record LogPart : Type 0 where
  pub side : Side
  pub size : ℕ
  pub vars : ℕ
  pub base : ℕ
  pub entries : List Entry
  pub line : ℕ

-- A document. `entries` is the limit on the entries of a log, and `found` the number of states of the system's machine that
-- was found, or 0. The last three fields say in which lines the names, the line `c` and the verdict stand.
pub record Document : Type 0 where
  pub version : ℕ
  pub verdict : Verdict
  pub kind : Kind
  pub max : ℕ
  pub entries : Option ℕ
  pub found : ℕ
  pub circuit : Option Circuit
  pub logs : List LogPart
  pub name_lines : List ℕ
  pub comment_line : ℕ
  pub verdict_line : ℕ
