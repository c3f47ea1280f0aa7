-- What the logs of one side are tested against: the problem of each size over the automaton of the side's form (bounded synthesis of
-- Finkbeiner and Schewe; that the covers are reduced ones, and the limits, are this project's own).
use Rattle.std.specs.Prelude.{◌≡◌, ℕ, ◌+◌, List, All}
use Rattle.letters_and_lassos.specs.declared.kinds.Kind.{Kind}
use Rattle.letters_and_lassos.specs.declared.kinds.Side.{Side}
use Rattle.letters_and_lassos.specs.declared.kinds.Side.TheVariants.{System, Environment}
use Rattle.ltl_formula.specs.declared.nodes.FormulaId.{FormulaId}
use Rattle.ltl_formula.specs.declared.nodes.Node.{Node}
use Rattle.obligation_sets.specs.declared.sets.Covering.{Covering}
use Rattle.machine_model.specs.Automaton.{AutomatonModel, IsAutomaton}
use Rattle.machine_model.specs.Counting.{CountsBy}
use Rattle.machine_model.specs.Problem.{NamesSignals, automaton_of}
use Rattle.machine_model.specs.declared.problems.Problem.{Problem}
use Rattle.cobuchi_build.specs.Built.{IsAutomatonOf, PassesLimit}
use Rattle.text_limits.specs.declared.TheConstants.{LARGE_LIMITS}

-- A formula in a list, which is true where the side loses; whose machines are sought, and of which kind; and the numbers of inputs and outputs.
pub record LogGround : Type 0 where
  pub nodes : List Node
  pub form : FormulaId
  pub side : Side
  pub kind : Kind
  pub inputs : ℕ
  pub outputs : ℕ

-- how many signals the side's machines read
abbrev pub reads_on : LogGround → ℕ
reads_on g = elim g.side [ System ↦ g.inputs | Environment ↦ g.outputs ]

-- the form's automaton over reduced covers passes a limit
abbrev pub IsTooLarge : LogGround → Type 0
IsTooLarge g = PassesLimit Covering.Reduced LARGE_LIMITS.automaton g.nodes g.form

-- an automaton names no signals but the inputs and the outputs
abbrev pub NamesItsSignals : LogGround → AutomatonModel → Type 0
NamesItsSignals g a = All (NamesSignals (g.inputs + g.outputs)) a.edges

-- the side's automaton: that of the form over reduced covers, which passes no limit and names the inputs and outputs alone
pub record IsAutomatonFor (g : LogGround) (a : AutomatonModel) : Type 0 where
  pub automaton : IsAutomatonOf Covering.Reduced g.nodes g.form a
  pub made : IsAutomaton a
  pub within : IsTooLarge g → ⊥
  pub signals : NamesItsSignals g a

-- the side has no automaton: it passes a limit, or names other signals, as that of a text's form never does
pub data HasNoAutomaton (g : LogGround) : Type 0 where
  too_large : IsTooLarge g → HasNoAutomaton g
  other_signals : (a : AutomatonModel) → IsAutomatonOf Covering.Reduced g.nodes g.form a → (NamesItsSignals g a → ⊥) → HasNoAutomaton g

-- the search for a machine of so many states with which the side wins, whose numbers count by component
pub record IsSizeOf (g : LogGround) (size : ℕ) (p : Problem) : Type 0 where
  pub automaton : IsAutomatonFor g (automaton_of p)
  pub inputs : p.inputs ≡ g.inputs
  pub outputs : p.outputs ≡ g.outputs
  pub of_side : p.side ≡ g.side
  pub kind_is : p.kind ≡ g.kind
  pub states : p.size ≡ size
  pub counting : CountsBy (automaton_of p) p.counting
