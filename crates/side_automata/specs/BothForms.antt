use Rattle.std.specs.Prelude.{◌≡◌, ◌↔◌, Bool, true, false, IsTrue, List, Some}
use Rattle.letters_and_lassos.specs.Word.{Word, HasRing}
use Rattle.ltl_formula.specs.declared.faults.AddFault.{AddFault}
use Rattle.ltl_formula.specs.declared.nodes.FormulaId.{FormulaId}
use Rattle.ltl_formula.specs.declared.nodes.Node.{Node}
use Rattle.ltl_formula.specs.Added.{Built}
use Rattle.ltl_formula.specs.NormalForm.{IsNormal}
use Rattle.ltl_formula.specs.Nodes.{IsNodeIn, tree_at}
use Rattle.ltl_formula.specs.Tree.{Tree}
use Rattle.ltl_formula.specs.Truth.{holds}
use Rattle.ltl_normal.specs.NormalNodes.{form_in, go_on}
use Rattle.text_limits.specs.declared.TheConstants.{SMALL_LIMITS}
use Rattle.cobuchi_build.specs.declared.building.BuildFault.{BuildFault}

-- The two forms of a formula that the automata of both sides are built of (bounded synthesis of Finkbeiner and Schewe: a
-- side's automaton accepts the words on which the side loses).

-- the negated form made in a list, and then the normal form in the list that this leaves; a new node that meets as many as there
-- may be ends the making (this project's own order)
abbrev pub both_forms : Tree → List Node → Built
both_forms f nodes = go_on (form_in SMALL_LIMITS.nodes false f nodes) (λ negated later. form_in SMALL_LIMITS.nodes true f later)

-- both forms were made, of these ids, and the list has become this one
pub record AreForms (f : Tree) (old new : List Node) (negated normal : FormulaId) : Type 0 where
  pub of_negated : (form_in SMALL_LIMITS.nodes false f old).made ≡ Some negated
  pub of_normal : both_forms f old ≡ record { nodes = new; made = Some normal }

-- the id stands for a formula in normal form that is true on the lassos on which f has this truth
pub record IsFormWhere (truth : Bool) (f : Tree) (ns : List Node) (id : FormulaId) : Type 0 where
  pub stands : IsNodeIn ns id
  pub normal : IsNormal (tree_at ns id)
  pub same : (w : Word) → HasRing w → IsTrue (holds w (tree_at ns id) 0) ↔ (holds w f 0 ≡ truth)

-- the fault of `problems` where a node wasn't added
abbrev pub fault_of : AddFault → BuildFault
fault_of AddFault.TooManyNodes = BuildFault.TooManyNodes
fault_of AddFault.NoMemory = BuildFault.NoMemory
