use Rattle.std.specs.Prelude.{◌≤◌, ℕ, List, All}
use Rattle.ltl_formula.specs.declared.nodes.FormulaId.{FormulaId}
use Rattle.ltl_formula.specs.declared.nodes.Node.{Node}
use Rattle.ltl_formula.specs.ListSignals.{HasSignalsBelow}
use Rattle.ltl_formula.specs.NormalForm.{IsNormal}
use Rattle.ltl_formula.specs.Nodes.{IsNodeList, IsNodeIn, tree_at}
use Rattle.machine_model.specs.Automaton.{AutomatonModel, states_of}
use Rattle.machine_model.specs.Problem.{NamesSignals}
use Rattle.obligation_sets.specs.declared.sets.Covering.{Covering}
use Rattle.text_limits.specs.declared.AutomatonLimits.{AutomatonLimits}
use Rattle.cobuchi_build.specs.Built.{IsAutomatonOf, PassesLimit}

-- the automaton's cubes name no signals but those of the list
pub record NamesSignalsOf (ns : List Node) (a : AutomatonModel) : Type 0 where
  pub named : (n : ℕ) → HasSignalsBelow n ns → All (NamesSignals n) a.edges

-- what every automaton of a formula keeps to
pub record AutomataKeepLimits : Type 0 where
  pub signals : (covering : Covering) (ns : List Node) (f : FormulaId) (a : AutomatonModel) → IsNodeList ns → IsNodeIn ns f → IsNormal (tree_at ns f) → IsAutomatonOf covering ns f a → NamesSignalsOf ns a
  pub states : (covering : Covering) (limits : AutomatonLimits) (ns : List Node) (f : FormulaId) (a : AutomatonModel) → IsAutomatonOf covering ns f a → (PassesLimit covering limits ns f → ⊥) → states_of a ≤ limits.states
