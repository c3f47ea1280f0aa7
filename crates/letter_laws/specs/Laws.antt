-- What the base clauses of version 4 say over all letters, within the limits of version 4 (bounded synthesis of Finkbeiner and Schewe).
use Rattle.std.specs.Prelude.{◌≡◌, ◌↔◌, ℕ, Bool, true, false, List, Option}
use Rattle.propositional_logic.specs.Truth.{meets}
use Rattle.machine_model.specs.Accepts.{SideAccepts}
use Rattle.machine_model.specs.Automaton.{IsAutomaton}
use Rattle.machine_model.specs.Machine.{IsMachine, MachineModel}
use Rattle.machine_model.specs.Problem.{IsMachineOf, automaton_of}
use Rattle.machine_model.specs.declared.problems.Problem.{Problem}
use Rattle.product_bound.specs.Annotation.{IsValidAnnotation}
use Rattle.annotation_encode.specs.Laws.{HasAccepted, HasNoAccepted, IsMetBySome}
use Rattle.letter_clauses.specs.BaseClauses.{base_clauses}
use Rattle.letter_clauses.specs.Laws.{all_letters}
use Rattle.letter_clauses.specs.Letters.{IsLetterProblem}
use Rattle.letter_clauses.specs.Variables.{variables_of}
use Rattle.machine_decode.specs.Decoded.{IsDecoded}

-- what an assignment says is a machine of the problem with a valid annotation, so the side accepts it: each row goes to the
-- least state to which it may, what is written is what is true, and each pair has the greatest number that it reaches
pub record HasDecoded (p : Problem) (values : List Bool) : Type 0 where
  pub machine : MachineModel
  pub numbers : List (Option ℕ)
  pub looked_for : IsMachineOf p machine
  pub made : IsMachine machine
  pub decoded : IsDecoded p values machine numbers
  pub valid : IsValidAnnotation p machine numbers
  pub accepted : SideAccepts (automaton_of p) p.side machine

-- so it is of each assignment that meets the base clauses over all letters, whatever its length; variables behind its end are
-- false
abbrev pub MetIsDecoded : Type 0
MetIsDecoded =
    (p : Problem) (values : List Bool) → IsLetterProblem p (all_letters p) → IsAutomaton (automaton_of p)
    → meets values (base_clauses p (all_letters p)) ≡ true → HasDecoded p values

-- some assignment to the problem's variables meets these clauses exactly where the side accepts a machine of the problem, and
-- none of any length does exactly where it accepts none, and each has a run that shows it
pub record AreExact (p : Problem) : Type 0 where
  pub met : IsMetBySome (variables_of p (all_letters p)) (base_clauses p (all_letters p)) ↔ HasAccepted p
  pub unmet : ((values : List Bool) → meets values (base_clauses p (all_letters p)) ≡ false) ↔ HasNoAccepted p

abbrev pub AllLettersAreExact : Type 0
AllLettersAreExact = (p : Problem) → IsLetterProblem p (all_letters p) → IsAutomaton (automaton_of p) → AreExact p
