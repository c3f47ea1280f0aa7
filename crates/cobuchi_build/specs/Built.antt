use Rattle.std.specs.Prelude.{◌≡◌, ◌==◌, ◌<◌, ◌≤◌, ◌↔◌, ◌⊎◌, ℕ, List, Any, IsTrue, length, map}
use Rattle.letters_and_lassos.specs.Word.{Word, HasRing}
use Rattle.ltl_formula.specs.declared.nodes.FormulaId.{FormulaId}
use Rattle.ltl_formula.specs.declared.nodes.Node.{Node}
use Rattle.ltl_formula.specs.Nodes.{tree_at}
use Rattle.ltl_formula.specs.Truth.{holds}
use Rattle.obligation_sets.specs.declared.sets.Covering.{Covering}
use Rattle.obligation_sets.specs.declared.cover_search.TheConstants.{MAX_LEAVES}
use Rattle.obligation_sets.specs.Covers.{set_leaves}
use Rattle.machine_model.specs.Accepts.{Accepts}
use Rattle.machine_model.specs.Automaton.{AutomatonModel}
use Rattle.obligation_sets.specs.declared.cover_search.CoverFault.{CoverFault}
use Rattle.cobuchi_build.specs.declared.building.BuildFault.{BuildFault}
use Rattle.text_limits.specs.declared.AutomatonLimits.{AutomatonLimits}
use Rattle.cobuchi_build.specs.Explored.{Explored, explored}
use Rattle.cobuchi_build.specs.Occurring.{untils_of}

-- the fault of `build` where covers weren't given
abbrev pub fault_of : CoverFault → BuildFault
fault_of CoverFault.TooManyLeaves = BuildFault.TooLarge
fault_of CoverFault.NoMemory = BuildFault.NoMemory

-- the automaton of the states and edges found; a state is rejecting where its counter is the number of untils
abbrev pub automaton_from : List FormulaId → Explored → AutomatonModel
automaton_from untils found = record { edges = found.edges; rejecting = map (λ state. state.counter == length untils) found.states }

-- so many states were expanded that none is left
pub record IsFinished (covering : Covering) (ns : List Node) (f : FormulaId) (found : Explored) : Type 0 where
  pub rounds : ℕ
  pub all : length found.states ≤ rounds
  pub is : found ≡ explored covering ns (untils_of ns f) f rounds

-- the automaton of f over plain or reduced covers: of the states and edges that there are once none is left to expand (bounded synthesis of
-- Finkbeiner and Schewe)
pub record IsAutomatonOf (covering : Covering) (ns : List Node) (f : FormulaId) (a : AutomatonModel) : Type 0 where
  pub found : Explored
  pub finished : IsFinished covering ns f found
  pub is : a ≡ automaton_from (untils_of ns f) found

-- what was found passes a limit: it has too many states, too many edges, or a state whose set has too many leaves
abbrev pub IsTooLarge : AutomatonLimits → List Node → Explored → Type 0
IsTooLarge limits ns found =
    ((limits.states < length found.states) ⊎ (limits.edges < length found.edges)) ⊎ Any (λ state. MAX_LEAVES < length (set_leaves ns state.set)) found.states

-- the automaton of f passes a limit; leaves are counted before anything is cut (this project's own)
pub record PassesLimit (covering : Covering) (limits : AutomatonLimits) (ns : List Node) (f : FormulaId) : Type 0 where
  pub rounds : ℕ
  pub passes : IsTooLarge limits ns (explored covering ns (untils_of ns f) f rounds)

-- the automaton accepts exactly the lassos on which f is true
pub record AcceptsExactly (ns : List Node) (f : FormulaId) (a : AutomatonModel) : Type 0 where
  pub lassos : (w : Word) → HasRing w → Accepts a w ↔ IsTrue (holds w (tree_at ns f) 0)
