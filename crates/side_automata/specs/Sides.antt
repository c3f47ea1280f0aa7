use Rattle.std.specs.Prelude.{◌≡◌, ◌↔◌, Bool, List, Option, Some, None}
use Rattle.letters_and_lassos.specs.Word.{Word, HasRing}
use Rattle.ltl_formula.specs.declared.nodes.FormulaId.{FormulaId}
use Rattle.ltl_formula.specs.declared.nodes.Node.{Node}
use Rattle.ltl_formula.specs.Tree.{Tree}
use Rattle.ltl_formula.specs.Truth.{holds}
use Rattle.machine_model.specs.Accepts.{Accepts}
use Rattle.machine_model.specs.Automaton.{AutomatonModel}
use Rattle.obligation_sets.specs.declared.sets.Covering.{Covering}
use Rattle.cobuchi_build.specs.Built.{IsAutomatonOf, PassesLimit}
use Rattle.text_limits.specs.declared.TheConstants.{SMALL_LIMITS}
use Rattle.side_automata.specs.declared.automata.Automata.{Automata}
use Rattle.side_automata.specs.BothForms.{AreForms}

-- the automaton accepts exactly the lassos on which the formula has this truth (linear temporal logic)
pub record AcceptsWhere (truth : Bool) (f : Tree) (a : AutomatonModel) : Type 0 where
  pub lassos : (w : Word) → HasRing w → Accepts a w ↔ (holds w f 0 ≡ truth)

-- the automaton of a form, or none exactly where that passes a limit (this project's own)
abbrev pub IsWithinLimits : List Node → FormulaId → Option AutomatonModel → Type 0
IsWithinLimits ns f None = PassesLimit Covering.Plain SMALL_LIMITS.automaton ns f
IsWithinLimits ns f (Some a) = IsAutomatonOf Covering.Plain ns f a × (PassesLimit Covering.Plain SMALL_LIMITS.automaton ns f → ⊥)

-- the automata of both sides: the system's of the negated form, which passes no limit, and the environment's of the normal
-- form, where that passes none (bounded synthesis of Finkbeiner and Schewe)
pub record AreAutomataOf (f : Tree) (old new : List Node) (a : Automata) : Type 0 where
  pub negated : FormulaId
  pub normal : FormulaId
  pub forms : AreForms f old new negated normal
  pub system : IsAutomatonOf Covering.Plain new negated a.system
  pub within : PassesLimit Covering.Plain SMALL_LIMITS.automaton new negated → ⊥
  pub environment : IsWithinLimits new normal a.environment

-- both forms were made, and the system's automaton passes a limit
pub record SystemPassesLimit (f : Tree) (old new : List Node) : Type 0 where
  pub negated : FormulaId
  pub normal : FormulaId
  pub forms : AreForms f old new negated normal
  pub passes : PassesLimit Covering.Plain SMALL_LIMITS.automaton new negated
