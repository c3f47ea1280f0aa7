use Rattle.std.specs.Prelude.{◌≡◌, ◌↔◌, Bool, true, not, List, None}
use Rattle.letters_and_lassos.specs.declared.kinds.Side.{Side}
use Rattle.letters_and_lassos.specs.declared.kinds.Side.TheVariants.{System, Environment}
use Rattle.letters_and_lassos.specs.Word.{Word, SameWord}
use Rattle.ltl_formula.specs.declared.nodes.Node.{Node}
use Rattle.ltl_formula.specs.Tree.{Tree}
use Rattle.machine_model.specs.Accepts.{SideAccepts}
use Rattle.machine_model.specs.Automaton.{AutomatonModel}
use Rattle.machine_model.specs.Machine.{MachineModel, IsMachine}
use Rattle.machine_model.specs.Run.{ArePartners, IsPlay}
use Rattle.side_automata.specs.declared.automata.Automata.{Automata}
use Rattle.side_automata.specs.BothForms.{both_forms}
use Rattle.side_automata.specs.Defeat.{DefeatsAll, EachRunMakes}
use Rattle.side_automata.specs.Sides.{AcceptsWhere, AreAutomataOf, SystemPassesLimit}

-- two plays of the same machines are the same word
abbrev pub PlaysAreOneWord : Type 0
PlaysAreOneWord =
    (system environment : MachineModel) (v w : Word) → IsMachine system → IsMachine environment → ArePartners system environment
    → IsPlay system environment v → IsPlay system environment w → SameWord v w

-- two machines of any size that can play against each other have a play
abbrev pub EveryPairHasAPlay : Type 0
EveryPairHasAPlay =
    (system environment : MachineModel) → IsMachine system → IsMachine environment → ArePartners system environment
    → (w : Word) × IsPlay system environment w

-- a side whose automaton accepts the lassos on which the formula is of one truth accepts exactly the machines whose every
-- run lasso makes it the other
abbrev pub AcceptedMachinesMake : Type 0
AcceptedMachinesMake =
    (truth : Bool) (f : Tree) (a : AutomatonModel) (side : Side) (m : MachineModel) → AcceptsWhere (not truth) f a
    → SideAccepts a side m ↔ EachRunMakes truth f side m

-- the environment's side accepts exactly the machines that defeat all machines of the system, of any size
abbrev pub AcceptedCounterMachinesDefeat : Type 0
AcceptedCounterMachinesDefeat =
    (f : Tree) (a : AutomatonModel) (environment : MachineModel) → IsMachine environment → AcceptsWhere true f a
    → SideAccepts a Environment environment ↔ DefeatsAll f environment

-- a machine that can play against one that defeats all doesn't satisfy the formula, so its side doesn't accept it
abbrev pub TheDefeatedDoNotSatisfy : Type 0
TheDefeatedDoNotSatisfy =
    (f : Tree) (system environment : MachineModel) → IsMachine system → ArePartners system environment → DefeatsAll f environment
    → EachRunMakes true f System system → ⊥

-- what the answers of `problems` say of a formula and a list excludes one another, and the automata are determined
pub record AnswersAreApart : Type 0 where
  pub one : (f : Tree) (old one_list other_list : List Node) (a b : Automata) → AreAutomataOf f old one_list a → AreAutomataOf f old other_list b → a ≡ b
  pub too_large : (f : Tree) (old one_list other_list : List Node) (a : Automata) → AreAutomataOf f old one_list a → SystemPassesLimit f old other_list → ⊥
  pub made : (f : Tree) (old new : List Node) (a : Automata) → AreAutomataOf f old new a → (both_forms f old).made ≡ None → ⊥
  pub passed : (f : Tree) (old new : List Node) → SystemPassesLimit f old new → (both_forms f old).made ≡ None → ⊥
