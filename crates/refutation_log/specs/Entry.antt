use Rattle.std.specs.Prelude.{List, All, map}
use Rattle.propositional_logic.specs.Literal.{Literal}
use Rattle.propositional_logic.specs.Clause.{IsClause}
use Rattle.refutation_log.specs.declared.entries.Entry.{Entry}

-- The clauses of a list of entries, in its order (this project's own).
abbrev pub clauses_of : List Entry → List (List Literal)
clauses_of entries = map (λ e. e.clause) entries

-- The clause of each entry is in its one written order, with each variable once (this project's own).
abbrev pub AreSorted : List Entry → Type 0
AreSorted entries = All (λ e. IsClause e.clause) entries
