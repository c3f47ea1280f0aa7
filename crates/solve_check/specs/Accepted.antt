-- What it means that a document of version 6 is accepted, whoever wrote it: by the meaning of the text as it is written, of a converted
-- one by that of the shifted word (bounded synthesis of Finkbeiner and Schewe; the duality of Mealy and Moore machines).
use Rattle.std.specs.Prelude.{◌≡◌, ℕ, ◌<◌, ◌≤◌, ⊤, List, Option, Some, length}
use Rattle.letters_and_lassos.specs.declared.kinds.Kind.{Kind}
use Rattle.letters_and_lassos.specs.declared.kinds.Side.TheVariants.{System, Environment}
use Rattle.aiger_text.specs.Circuit.{Circuit, HasStates, RunsOnEveryInput}
use Rattle.aiger_text.specs.CircuitType.{IsCircuit}
use Rattle.circuit_laws.specs.Laws.{NoCircuitDefeats, NoCircuitSatisfies}
use Rattle.satisfaction.specs.Wanted.{Wanted}
use Rattle.satisfaction.specs.Satisfaction.{CircuitDefeats, CircuitSatisfies, EachCanLose, NoneSatisfies}
use Rattle.tlsf_expand.specs.FlatText.{FlatText}
use Rattle.solve_ground.specs.declared.texts.SolveText.{SolveText}
use Rattle.solve_ground.specs.SolveText.{IsSolveText}
use Rattle.solve_ground.specs.Taken.{IsTakenAs}
use Rattle.solved_text.specs.declared.documents.Verdict.{Verdict}
use Rattle.solved_text.specs.declared.documents.Verdict.TheVariants.{Realizable, Unrealizable, Unknown}
use Rattle.solved_text.specs.Parts.{Document}
use Rattle.solved_text.specs.States.{States}
use Rattle.solve_check.specs.Holds.{HoldsSolved}

-- A circuit of exactly n states that satisfies, with a run lasso on each lasso of input letters; no machine of `refuted` or fewer
-- states satisfies, and no circuit with so few.
pub record IsController (x : Wanted) (n refuted : ℕ) (d : Document) : Type 0 where
  pub circuit : Circuit
  pub circuit_is : d.circuit ≡ Some circuit
  pub is_circuit : IsCircuit circuit
  pub satisfies : CircuitSatisfies x circuit
  pub runs : RunsOnEveryInput System circuit
  pub states : HasStates circuit n
  pub no_machine : (k : ℕ) → 0 < k → k ≤ refuted → NoneSatisfies x k
  pub no_circuit : (k : ℕ) → k ≤ refuted → NoCircuitSatisfies x k

-- A circuit of the environment of exactly n states that defeats every machine; each machine of the environment of `refuted` or fewer
-- states can lose, and no circuit with so few defeats.
pub record IsCounterStrategy (x : Wanted) (n refuted : ℕ) (d : Document) : Type 0 where
  pub circuit : Circuit
  pub circuit_is : d.circuit ≡ Some circuit
  pub is_circuit : IsCircuit circuit
  pub defeats : CircuitDefeats x circuit
  pub runs : RunsOnEveryInput Environment circuit
  pub states : HasStates circuit n
  pub no_machine : (k : ℕ) → 0 < k → k ≤ refuted → EachCanLose x k
  pub no_circuit : (k : ℕ) → k ≤ refuted → NoCircuitDefeats x k

-- what a verdict says of what is wanted; that neither was found says nothing
abbrev pub IsTrueOf : Wanted → Document → Verdict → Type 0
IsTrueOf x d (Realizable n) = IsController x n (length d.logs) d
IsTrueOf x d (Unrealizable n) = IsCounterStrategy x n (length d.logs) d
IsTrueOf x d Unknown = ⊤

-- The bytes state the document, it holds for the text, taken with the given kind or by its own, and so its verdict is true of what the
-- text wants.
pub record IsAcceptedSolved (text : List ℕ) (given : Option Kind) (bytes : List ℕ) (d : Document) : Type 0 where
  pub known : SolveText
  pub is_known : IsSolveText text given known
  pub states : States bytes d
  pub holds : HoldsSolved known d
  pub flat : FlatText
  pub wanted : Wanted
  pub taken : IsTakenAs text given flat wanted
  pub kind_is : d.kind ≡ wanted.kind
  pub verdict : IsTrueOf wanted d d.verdict
