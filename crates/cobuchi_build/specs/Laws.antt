use Rattle.std.specs.Prelude.{◌≡◌, List, IsTrue}
use Rattle.ltl_formula.specs.declared.nodes.FormulaId.{FormulaId}
use Rattle.ltl_formula.specs.declared.nodes.Node.{Node}
use Rattle.ltl_formula.specs.NormalForm.{IsNormal}
use Rattle.ltl_formula.specs.Nodes.{IsNodeList, IsNodeIn, tree_at}
use Rattle.letters_and_lassos.specs.Word.{Word, HasRing}
use Rattle.ltl_formula.specs.Truth.{holds}
use Rattle.obligation_sets.specs.declared.sets.Covering.{Covering}
use Rattle.machine_model.specs.Automaton.{AutomatonModel}
use Rattle.cobuchi_build.specs.Built.{AcceptsExactly, IsAutomatonOf}
use Rattle.cobuchi_build.specs.Occurring.{ListsUntils, untils_of}
use Rattle.cobuchi_build.specs.Paths.{HasPath}

-- the automaton of a formula in normal form, over plain or reduced covers, accepts exactly the lassos on which the formula is true
abbrev pub TheAutomatonAcceptsExactly : Type 0
TheAutomatonAcceptsExactly =
    (covering : Covering) (ns : List Node) (f : FormulaId) (a : AutomatonModel) → IsNodeList ns → IsNodeIn ns f → IsNormal (tree_at ns f)
    → IsAutomatonOf covering ns f a → AcceptsExactly ns f a

-- where a formula in normal form is true on a lasso it has a path of named states there, whatever the limits are
abbrev pub TrueFormulasHavePaths : Type 0
TrueFormulasHavePaths =
    (covering : Covering) (ns : List Node) (f : FormulaId) (w : Word) → IsNodeList ns → IsNodeIn ns f → IsNormal (tree_at ns f)
    → HasRing w → IsTrue (holds w (tree_at ns f) 0) → HasPath covering ns f w

-- a formula has one automaton over plain covers, and one over reduced ones: what is found no longer changes once each state was expanded
abbrev pub OneAutomatonPerFormula : Type 0
OneAutomatonPerFormula =
    (covering : Covering) (ns : List Node) (f : FormulaId) (a b : AutomatonModel) → IsAutomatonOf covering ns f a → IsAutomatonOf covering ns f b → a ≡ b

-- the list of untils has exactly those that occur in the formula, by rising id
abbrev pub UntilsAreThoseThatOccur : Type 0
UntilsAreThoseThatOccur = (ns : List Node) (f : FormulaId) → IsNodeList ns → IsNodeIn ns f → ListsUntils ns f (untils_of ns f)
