use Rattle.std.specs.Prelude.{ℕ, List, Option}
use Rattle.machine_model.specs.Automaton.{IsAutomaton}
use Rattle.machine_model.specs.Problem.{IsProblem, automaton_of}
use Rattle.machine_model.specs.declared.problems.Problem.{Problem}
use Rattle.refutation_log.specs.Log.{IsClosed}
use Rattle.refutation_log.specs.declared.entries.Entry.{Entry}
use Rattle.annotation_encode.specs.BaseClauses.{base_clauses}
use Rattle.annotation_encode.specs.Laws.{HasNoAccepted}

-- where a log is closed over a problem's base clauses, whatever its limit and its number of variables are, the side
-- accepts no machine of the problem (bounded synthesis of Finkbeiner and Schewe; clausal proofs)
abbrev pub ClosedLogsRefute : Type 0
ClosedLogsRefute =
    (p : Problem) (vars : ℕ) (limit : Option ℕ) (log : List Entry) → IsProblem p → IsAutomaton (automaton_of p)
    → IsClosed vars (base_clauses p) limit log → HasNoAccepted p
