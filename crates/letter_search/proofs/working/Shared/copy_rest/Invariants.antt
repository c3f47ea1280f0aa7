use Rattle.std.proofs.Common.{All}
use Rattle.propositional_logic.specs.Clause.{IsWithinVariables}
use Rattle.refutation_log.specs.declared.entries.Entry.{Entry}
use Rattle.names_and_numbers.specs.Prefix.{IsPrefix}
use Rattle.letter_search.proofs.working.Shared.copy_rest.Given as goal

abbrev pub invariant-loop-i : goal.invariant-loop-i
invariant-loop-i l = All (λ (e : Entry). IsWithinVariables l.vars e.clause) l.into.items × IsPrefix l.fn.into.items l.into.items
