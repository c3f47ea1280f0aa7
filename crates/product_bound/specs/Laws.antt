use Rattle.std.specs.Prelude.{◌≡◌, ◌↔◌, ◌⊎◌, ℕ, List, Option, length}
use Rattle.letters_and_lassos.specs.declared.kinds.Side.{Side}
use Rattle.letters_and_lassos.specs.Word.{Word}
use Rattle.machine_model.specs.Accepts.{Accepts, SideAccepts}
use Rattle.machine_model.specs.Automaton.{IsAutomaton}
use Rattle.machine_model.specs.Machine.{MachineModel, IsMachine, size_of}
use Rattle.machine_model.specs.Problem.{IsMachineOf, IsProblem, automaton_of}
use Rattle.machine_model.specs.Run.{IsRun, IsRunLasso}
use Rattle.machine_model.specs.declared.problems.Problem.{Problem}
use Rattle.product_bound.specs.Annotation.{IsValidAnnotation, places_of}
use Rattle.product_bound.specs.Numbered.{IsNumbered, numbered_of}

-- an annotation with a number for each pair that needs one, which is valid
pub record HasValidAnnotation (p : Problem) (m : MachineModel) : Type 0 where
  pub numbers : List (Option ℕ)
  pub places : length numbers ≡ places_of p
  pub valid : IsValidAnnotation p m numbers

-- a side accepts a machine exactly where it has a valid annotation, so numbers up to the bound suffice (bounded
-- synthesis of Finkbeiner and Schewe)
abbrev pub AcceptedIsAnnotated : Type 0
AcceptedIsAnnotated =
    (p : Problem) (m : MachineModel) → IsProblem p → IsAutomaton (automaton_of p) → IsMachine m → IsMachineOf p m
    → SideAccepts (automaton_of p) p.side m ↔ HasValidAnnotation p m

-- the numbered machine is a machine of the same kind, size and signals, is numbered, and has the same run lassos
pub record IsNumberedForm (m new : MachineModel) : Type 0 where
  pub machine : IsMachine new
  pub kind : new.kind ≡ m.kind
  pub size : size_of new ≡ size_of m
  pub reads : new.reads ≡ m.reads
  pub writes : new.writes ≡ m.writes
  pub in_order : IsNumbered new
  pub same_runs : (side : Side) (w : Word) → IsRun new side w ↔ IsRun m side w

-- a run lasso of the machine whose word the side's automaton accepts: a play that the machine loses (bounded synthesis of
-- Finkbeiner and Schewe)
pub record HasRejectingRun (p : Problem) (m : MachineModel) : Type 0 where
  pub word : Word
  pub states : List ℕ
  pub run : IsRunLasso m p.side word states
  pub accepted : Accepts (automaton_of p) word

-- a machine of a problem is accepted by its side, or has such a run (the same source)
abbrev pub AcceptedOrRejected : Type 0
AcceptedOrRejected =
    (p : Problem) (m : MachineModel) → IsProblem p → IsAutomaton (automaton_of p) → IsMachine m → IsMachineOf p m
    → SideAccepts (automaton_of p) p.side m ⊎ HasRejectingRun p m

-- each machine has a numbered one with the same words (this project's own)
abbrev pub NumberedSuffices : Type 0
NumberedSuffices = (m : MachineModel) → IsMachine m → IsNumberedForm m (numbered_of m)
