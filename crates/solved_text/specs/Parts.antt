-- What the lines of a document of version 6 hold, with lists in place of vectors (this project's own).
use Rattle.std.specs.Prelude.{ℕ, Bool, Option, List}
use Rattle.letters_and_lassos.specs.declared.kinds.Kind.{Kind}
use Rattle.refutation_log.specs.declared.entries.Entry.{Entry}
use Rattle.aiger_text.specs.Circuit.{Circuit}
use Rattle.solved_text.specs.declared.documents.Verdict.{Verdict}
use Rattle.solved_text.specs.declared.letters.Letters.{Letters}

-- A log of one size: the letters over which its base clauses are, the numbers of variables and of base clauses, the entries, and
-- the line of its head.
pub record SizeLog : Type 0 where
  pub size : ℕ
  pub letters : Letters
  pub vars : ℕ
  pub base : ℕ
  pub entries : List Entry
  pub line : ℕ

-- A document. `kind` is that of the system's machines, `converted` says that the text is taken with the other kind as its semantics.
-- The logs and the lines of the annotation stand with a circuit alone.
pub record Document : Type 0 where
  pub verdict : Verdict
  pub kind : Kind
  pub converted : Bool
  pub circuit : Option Circuit
  pub logs : List SizeLog
  pub annotation : List ℕ
