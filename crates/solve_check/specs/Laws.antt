-- Laws of documents of version 6 against texts (this project's own).
use Rattle.std.specs.Prelude.{◌≡◌, ℕ, ◌<◌, ◌≤◌, List, Option}
use Rattle.letters_and_lassos.specs.declared.kinds.Kind.{Kind}
use Rattle.machine_model.specs.Machine.{MachineModel, size_of}
use Rattle.satisfaction.specs.Wanted.{Wanted}
use Rattle.satisfaction.specs.Satisfaction.{Defeats, EachCanLose, NoneSatisfies, Satisfies}
use Rattle.solve_ground.specs.declared.texts.SolveText.{SolveText}
use Rattle.solved_text.specs.declared.documents.Verdict.TheVariants.{Realizable, Unrealizable}
use Rattle.solved_text.specs.Parts.{Document}
use Rattle.solved_text.specs.States.{States}
use Rattle.solve_check.specs.Accepted.{IsAcceptedSolved, IsController, IsCounterStrategy}
use Rattle.solve_check.specs.FirstBad.{IsFirstBadSolved}
use Rattle.solve_check.specs.Holds.{HoldsSolved}

-- Of a text at most one line is the first bad one, and none where the bytes state a document that holds for it.
pub record SolvedChecksAreDetermined : Type 0 where
  pub one_line : (t : SolveText) (bytes : List ℕ) (n m : ℕ) → IsFirstBadSolved t bytes n → IsFirstBadSolved t bytes m → n ≡ m
  pub holding_has_none : (t : SolveText) (bytes : List ℕ) (d : Document) (n : ℕ) → States bytes d → HoldsSolved t d → IsFirstBadSolved t bytes n → ⊥

-- two documents that speak of the same kind of machines, and both of a converted text or neither
pub record SpeakAlike (d e : Document) : Type 0 where
  pub kind : d.kind ≡ e.kind
  pub converted : d.converted ≡ e.converted

-- Of one text, kind and semantics no two documents are accepted, one realizable and one unrealizable.
abbrev pub NeverBoth : Type 0
NeverBoth =
    (text : List ℕ) (given other : Option Kind) (a b : List ℕ) (d e : Document) (n m : ℕ) → IsAcceptedSolved text given a d
    → IsAcceptedSolved text other b e → SpeakAlike d e → d.verdict ≡ Realizable n → e.verdict ≡ Unrealizable m → ⊥

-- the fewest states with which a machine of the system satisfies, and with which one of the environment defeats every machine
pub record IsLeastSatisfying (x : Wanted) (n : ℕ) : Type 0 where
  pub machine : MachineModel
  pub size : size_of machine ≡ n
  pub satisfies : Satisfies x machine
  pub smaller : (k : ℕ) → 0 < k → k < n → NoneSatisfies x k

pub record IsLeastDefeating (x : Wanted) (n : ℕ) : Type 0 where
  pub machine : MachineModel
  pub size : size_of machine ≡ n
  pub defeats : Defeats x machine
  pub smaller : (k : ℕ) → 0 < k → k < n → EachCanLose x k

-- the fewest states lie above the sizes that are refuted, and aren't more than those of the circuit
pub record LiesBetween (refuted least n : ℕ) : Type 0 where
  pub above : refuted < least
  pub below : least ≤ n

-- The fewest states of a side lie between what a document refutes and what its circuit reaches.
pub record LeastLieBetween : Type 0 where
  pub of_system : (x : Wanted) (n refuted least : ℕ) (d : Document) → IsController x n refuted d → IsLeastSatisfying x least
      → LiesBetween refuted least n
  pub of_environment : (x : Wanted) (n refuted least : ℕ) (d : Document) → IsCounterStrategy x n refuted d → IsLeastDefeating x least
      → LiesBetween refuted least n
