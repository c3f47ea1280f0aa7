-- The problems of both sides of a formula, or the fault for which there are none: bounded synthesis of Finkbeiner and Schewe, with
-- this project's limits.
use Rattle.std.specs.Prelude.{◌≡◌, ℕ, true, false, List, Option, Some, None, IfSome}
use Rattle.letters_and_lassos.specs.declared.kinds.Kind.{Kind}
use Rattle.letters_and_lassos.specs.declared.kinds.Side.{Side}
use Rattle.letters_and_lassos.specs.declared.kinds.Side.TheVariants.{System, Environment}
use Rattle.letters_and_lassos.specs.Kinds.{other_kind}
use Rattle.ltl_formula.specs.declared.nodes.Node.{Node}
use Rattle.ltl_formula.specs.Tree.{Tree}
use Rattle.machine_model.specs.declared.problems.Problem.{Problem}
use Rattle.machine_model.specs.Automaton.{AutomatonModel}
use Rattle.machine_model.specs.Counting.{IsCountedAs}
use Rattle.machine_model.specs.Problem.{automaton_of, IsProblem}
use Rattle.side_automata.specs.declared.automata.Automata.{Automata}
use Rattle.side_automata.specs.BothForms.{both_forms}
use Rattle.side_automata.specs.Sides.{AcceptsWhere, AreAutomataOf, SystemPassesLimit}
use Rattle.spec_faults.specs.declared.code.SpecCode.{SpecCode}
use Rattle.spec_faults.specs.declared.code.SpecCode.TheVariants.{TooManyNodes, AutomatonTooLarge}
use Rattle.spec_faults.specs.declared.code.SpecFault.{SpecFault}
use Rattle.cobuchi_build.specs.declared.building.BuildFault.{BuildFault}
use Rattle.spec_problems.specs.declared.sides.Interface.{Interface}
use Rattle.spec_problems.specs.declared.sides.SideProblems.{SideProblems}

-- the problem of a side for machines of one state, over this automaton, in which numbers count what they are to
pub record IsProblemOver (x : Interface) (whose : Side) (machines : Kind) (a : AutomatonModel) (p : Problem) : Type 0 where
  pub automaton : automaton_of p ≡ a
  pub inputs : p.inputs ≡ x.inputs
  pub outputs : p.outputs ≡ x.outputs
  pub side : p.side ≡ whose
  pub kind : p.kind ≡ machines
  pub size : p.size ≡ 1
  pub counting : IsCountedAs x.counts a p.counting

-- the environment has a problem exactly where its automaton passes no limit; its machines are of the other kind
abbrev pub IsEnvironmentOver : Interface → Option AutomatonModel → Option Problem → Type 0
IsEnvironmentOver x None None = Unit {0}
IsEnvironmentOver x (Some a) (Some p) = IsProblemOver x Environment (other_kind x.kind) a p
IsEnvironmentOver x None (Some p) = ⊥
IsEnvironmentOver x (Some a) None = ⊥

-- the problems of both sides over their automata
pub record AreProblemsOver (x : Interface) (a : Automata) (s : SideProblems) : Type 0 where
  pub of_system : IsProblemOver x System x.kind a.system s.system
  pub of_environment : IsEnvironmentOver x a.environment s.environment

-- the problems of both sides of a formula that stands in the old list; the new list has its normal forms too
pub record AreProblemsIn (x : Interface) (f : Tree) (old new : List Node) (s : SideProblems) : Type 0 where
  pub automata : Automata
  pub are_automata : AreAutomataOf f old new automata
  pub problems : AreProblemsOver x automata s

-- a formula has no problems: its normal forms find no room in the list, or the system's automaton passes a limit
pub data IsFormFault (f : Tree) (nodes : List Node) : SpecCode → ℕ → Type 0 where
  no_room : (both_forms f nodes).made ≡ None → IsFormFault f nodes TooManyNodes 0
  too_large : (later : List Node) → SystemPassesLimit f nodes later → IsFormFault f nodes AutomatonTooLarge 0

-- both can be given to each call that takes a problem
pub record AreProblems (s : SideProblems) : Type 0 where
  pub is_system : IsProblem s.system
  pub is_environment : IfSome s.environment IsProblem

-- the system's automaton accepts the lassos on which the formula is false, and the environment's those on which it is true
pub record AcceptBySide (f : Tree) (s : SideProblems) : Type 0 where
  pub system_where : AcceptsWhere false f (automaton_of s.system)
  pub environment_where : IfSome s.environment (λ p. AcceptsWhere true f (automaton_of p))

-- the refusal of a text whose automata weren't given
abbrev pub refusal_of : BuildFault → SpecFault
refusal_of BuildFault.TooLarge = SpecFault.At AutomatonTooLarge 0
refusal_of BuildFault.TooManyNodes = SpecFault.At TooManyNodes 0
refusal_of BuildFault.NoMemory = SpecFault.NoMemory
