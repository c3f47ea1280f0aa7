-- Laws of the problems of formulas and texts.
use Rattle.std.specs.Prelude.{◌≡◌, ℕ, List, Option, Some, None}
use Rattle.letters_and_lassos.specs.declared.kinds.Kind.{Kind}
use Rattle.ltl_formula.specs.declared.nodes.Node.{Node}
use Rattle.ltl_formula.specs.Tree.{Tree}
use Rattle.machine_model.specs.declared.problems.Problem.{Problem}
use Rattle.machine_model.specs.declared.counting.Counts.{Counts}
use Rattle.machine_model.specs.Problem.{automaton_of}
use Rattle.spec_faults.specs.declared.code.SpecCode.{SpecCode}
use Rattle.tlsf_expand.specs.FlatText.{FlatText}
use Rattle.spec_problems.specs.declared.sides.Interface.{Interface}
use Rattle.spec_problems.specs.declared.sides.SideProblems.{SideProblems}
use Rattle.spec_problems.specs.OfFormula.{AreProblemsIn, IsFormFault}
use Rattle.spec_problems.specs.OfText.{AreProblemsOf, IsFirstFault}

-- two problems are the same but for where their automata stand in memory
pub record IsSameProblem (p q : Problem) : Type 0 where
  pub automaton : automaton_of p ≡ automaton_of q
  pub inputs : p.inputs ≡ q.inputs
  pub outputs : p.outputs ≡ q.outputs
  pub side : p.side ≡ q.side
  pub kind : p.kind ≡ q.kind
  pub size : p.size ≡ q.size
  pub counting : p.counting ≡ q.counting

abbrev pub IsSameIfAny : Option Problem → Option Problem → Type 0
IsSameIfAny None None = Unit {0}
IsSameIfAny (Some p) (Some q) = IsSameProblem p q
IsSameIfAny None (Some q) = ⊥
IsSameIfAny (Some p) None = ⊥

pub record AreSameProblems (s t : SideProblems) : Type 0 where
  pub of_system : IsSameProblem s.system t.system
  pub of_environment : IsSameIfAny s.environment t.environment

-- a formula has one pair of problems, or one fault
pub record ProblemsOfFormulasAreDetermined : Type 0 where
  pub one : (x : Interface) (f : Tree) (old new new' : List Node) (s t : SideProblems) → AreProblemsIn x f old new s → AreProblemsIn x f old new' t → AreSameProblems s t
  pub no_fault : (x : Interface) (f : Tree) (old new : List Node) (s : SideProblems) (code : SpecCode) (place : ℕ) → AreProblemsIn x f old new s → IsFormFault f old code place → ⊥
  pub one_fault : (f : Tree) (nodes : List Node) (code code' : SpecCode) (place place' : ℕ) → IsFormFault f nodes code place → IsFormFault f nodes code' place' → (code ≡ code') × (place ≡ place')

-- a text has one flat form with one pair of problems, or one first fault
pub record ProblemsOfTextsAreDetermined : Type 0 where
  pub one_text : (text : List ℕ) (kind : Option Kind) (counts : Counts) (spec spec' : FlatText) (s t : SideProblems) → AreProblemsOf text kind counts spec s → AreProblemsOf text kind counts spec' t → spec ≡ spec'
  pub one : (text : List ℕ) (kind : Option Kind) (counts : Counts) (spec spec' : FlatText) (s t : SideProblems) → AreProblemsOf text kind counts spec s → AreProblemsOf text kind counts spec' t → AreSameProblems s t
  pub no_fault : (text : List ℕ) (kind : Option Kind) (counts : Counts) (spec : FlatText) (s : SideProblems) (code : SpecCode) (place : ℕ) → AreProblemsOf text kind counts spec s → IsFirstFault text kind code place → ⊥
  pub one_fault : (text : List ℕ) (kind : Option Kind) (code code' : SpecCode) (place place' : ℕ) → IsFirstFault text kind code place → IsFirstFault text kind code' place' → (code ≡ code') × (place ≡ place')
