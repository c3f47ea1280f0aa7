use Rattle.std.specs.Prelude.{◌≡◌, ℕ, ◌<◌, ◌≤◌, Bool, true, false, List, length}
use Rattle.propositional_logic.specs.Literal.{Literal}
use Rattle.propositional_logic.specs.Truth.{meets}
use Rattle.machine_model.specs.Accepts.{SideAccepts}
use Rattle.machine_model.specs.Automaton.{IsAutomaton, states_of}
use Rattle.machine_model.specs.Machine.{IsMachine, MachineModel}
use Rattle.machine_model.specs.Problem.{IsMachineOf, IsProblem, automaton_of, parts_of, writes_of}
use Rattle.machine_model.specs.declared.problems.Problem.{Problem}
use Rattle.product_bound.specs.Annotation.{bound_at}
use Rattle.product_bound.specs.Laws.{HasRejectingRun}
use Rattle.annotation_encode.specs.BaseClauses.{base_clauses}
use Rattle.annotation_encode.specs.Variables.{letter_count, var_count, var_move, var_write, variables_of, write_place}

-- variables of different meaning are different: one that says where the machine moves stands before each that says
-- what it writes, that before each that says which numbers are reached, and none passes the number of variables (this
-- project's own)
pub record NumberingsDontMeet (p : Problem) : Type 0 where
  pub moves : (t i to s j on : ℕ) → i < letter_count p → to < p.size → j < letter_count p → on < p.size
      → var_move p t i to ≡ var_move p s j on → (t ≡ s) × (i ≡ j) × (to ≡ on)
  pub writes : (t i s u j r : ℕ) → i < letter_count p → s < writes_of p → j < letter_count p → r < writes_of p
      → var_write p t i s ≡ var_write p u j r → (write_place p.kind (letter_count p) t i ≡ write_place p.kind (letter_count p) u j) × (s ≡ r)
  pub counts : (t q c s r d : ℕ) → q < states_of (automaton_of p) → c ≤ bound_at p q → r < states_of (automaton_of p) → d ≤ bound_at p r
      → var_count p t q c ≡ var_count p s r d → (t ≡ s) × (q ≡ r) × (c ≡ d)
  pub moves_first : (t i to u j s : ℕ) → t < p.size → i < letter_count p → to < p.size → var_move p t i to < var_write p u j s
  pub then_writes : (t i s u q c : ℕ) → t < p.size → i < letter_count p → s < writes_of p → var_write p t i s < var_count p u q c
  pub last : (t q c : ℕ) → t < p.size → q < states_of (automaton_of p) → c ≤ bound_at p q → var_count p t q c ≤ variables_of p

abbrev pub VariablesDiffer : Type 0
VariablesDiffer = (p : Problem) → NumberingsDontMeet p

-- some assignment to this many variables meets the clauses (propositional logic)
pub record IsMetBySome (vars : ℕ) (clauses : List (List Literal)) : Type 0 where
  pub values : List Bool
  pub places : length values ≡ vars
  pub met : meets values clauses ≡ true

-- the problem's side accepts some machine that the problem looks for (bounded synthesis of Finkbeiner and Schewe)
pub record HasAccepted (p : Problem) : Type 0 where
  pub machine : MachineModel
  pub made : IsMachine machine
  pub looked_for : IsMachineOf p machine
  pub accepted : SideAccepts (automaton_of p) p.side machine

-- where a side accepts some machine of a problem, some assignment meets its base clauses (bounded synthesis of
-- Finkbeiner and Schewe)
abbrev pub AcceptedIsMet : Type 0
AcceptedIsMet = (p : Problem) → IsProblem p → IsAutomaton (automaton_of p) → HasAccepted p → IsMetBySome (variables_of p) (base_clauses p)

-- no assignment meets a problem's base clauses (propositional logic)
pub record IsUnmet (p : Problem) : Type 0 where
  pub unmet : (values : List Bool) → meets values (base_clauses p) ≡ false

-- the side accepts no machine of the problem: each has a run lasso whose word the side's automaton accepts
pub record HasNoAccepted (p : Problem) : Type 0 where
  pub none : HasAccepted p → ⊥
  pub each_rejected : (m : MachineModel) → IsMachine m → IsMachineOf p m → HasRejectingRun p m

-- so it is where the base clauses are unmet (the same source)
abbrev pub UnmetHasNoAccepted : Type 0
UnmetHasNoAccepted = (p : Problem) → IsProblem p → IsAutomaton (automaton_of p) → IsUnmet p → HasNoAccepted p

-- two problems have the same variables and base clauses, and their sides accept the same machines
pub record HaveEqualClauses (p q : Problem) : Type 0 where
  pub variables : variables_of p ≡ variables_of q
  pub clauses : base_clauses p ≡ base_clauses q
  pub accepted : HasAccepted p → HasAccepted q

-- so it is where they say the same, wherever their automata are kept
abbrev pub EqualPartsHaveEqualClauses : Type 0
EqualPartsHaveEqualClauses = (p q : Problem) → parts_of p ≡ parts_of q → HaveEqualClauses p q
