use Rattle.std.specs.Prelude.{◌≡◌, ℕ, ◌^◌, Bool, false, true, List, Option}
use Rattle.std.specs.List.{range_with_len}
use Rattle.propositional_logic.specs.Truth.{meets}
use Rattle.machine_model.specs.Automaton.{IsAutomaton}
use Rattle.machine_model.specs.Problem.{automaton_of, counts_locally, reads_of}
use Rattle.machine_model.specs.declared.problems.Problem.{Problem}
use Rattle.refutation_log.specs.Log.{IsClosed}
use Rattle.refutation_log.specs.declared.entries.Entry.{Entry}
use Rattle.annotation_encode.specs.BaseClauses as version_three
use Rattle.annotation_encode.specs.Laws.{HasAccepted, HasNoAccepted, IsMetBySome}
use Rattle.annotation_encode.specs.Variables as version_three_variables
use Rattle.letter_clauses.specs.BaseClauses.{base_clauses}
use Rattle.letter_clauses.specs.Letters.{IsLetterProblem}
use Rattle.letter_clauses.specs.Variables.{variables_of}

-- where a side accepts some machine of a problem, some assignment meets the base clauses over any letters: the machine does
-- for fewer letters what it does for all (bounded synthesis of Finkbeiner and Schewe; the letters are this project's own)
abbrev pub AcceptedIsMet : Type 0
AcceptedIsMet =
    (p : Problem) (letters : List ℕ) → IsLetterProblem p letters → IsAutomaton (automaton_of p) → HasAccepted p
    → IsMetBySome (variables_of p letters) (base_clauses p letters)

-- so where no assignment meets them, the side accepts no machine of the problem, and each has a run that shows it
abbrev pub UnmetHasNoAccepted : Type 0
UnmetHasNoAccepted =
    (p : Problem) (letters : List ℕ) → IsLetterProblem p letters → IsAutomaton (automaton_of p)
    → ((values : List Bool) → meets values (base_clauses p letters) ≡ false) → HasNoAccepted p

-- and so it is where a log is closed over them, whatever its limit and its number of variables are (clausal proofs)
abbrev pub ClosedLogsRefute : Type 0
ClosedLogsRefute =
    (p : Problem) (letters : List ℕ) (vars : ℕ) (limit : Option ℕ) (log : List Entry) → IsLetterProblem p letters
    → IsAutomaton (automaton_of p) → IsClosed vars (base_clauses p letters) limit log → HasNoAccepted p

-- all letters that a problem's machines read, by their number
abbrev pub all_letters : Problem → List ℕ
all_letters p = range_with_len 0 (2 ^ reads_of p)

-- over all letters the variables and the clauses are those of version 3
pub record AreOfVersionThree (p : Problem) : Type 0 where
  pub variables : variables_of p (all_letters p) ≡ version_three_variables.variables_of p
  pub clauses : base_clauses p (all_letters p) ≡ version_three.base_clauses p

abbrev pub AllLettersAreVersionThree : Type 0
AllLettersAreVersionThree = (p : Problem) → counts_locally p ≡ true → AreOfVersionThree p
