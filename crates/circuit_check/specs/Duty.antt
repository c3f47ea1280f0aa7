-- What a circuit owes to a text whose side it plays (this project's own).
use Rattle.std.specs.Prelude.{◌<◌, List, length}
use Rattle.letters_and_lassos.specs.declared.kinds.Kind.{Kind}
use Rattle.letters_and_lassos.specs.declared.kinds.Side.{Side}
use Rattle.ltl_formula.specs.declared.nodes.FormulaId.{FormulaId}
use Rattle.ltl_formula.specs.declared.nodes.Node.{Node}
use Rattle.ltl_formula.specs.Nodes.{IsNodeList, IsNodeIn, tree_at}
use Rattle.ltl_formula.specs.NormalForm.{IsNormal}
use Rattle.circuit_names.specs.Names.{Names, names_of}
use Rattle.circuit_check.specs.declared.duty.Duty.{Duty}

-- the names of what it reads, as inputs, and of what it writes; the side that it plays, its own kind, and the formula of a list that it
-- keeps from being true
pub record Owed : Type 0 where
  pub names : Names
  pub side : Side
  pub kind : Kind
  pub nodes : List Node
  pub form : FormulaId

abbrev pub owed_by : Duty → Owed
owed_by duty = record {
  names = names_of duty.names;
  side = duty.side;
  kind = duty.kind;
  nodes = duty.formulas.now;
  form = duty.form;
}

-- the formula stands in the list, in normal form, and the signals are few
pub record IsReady (owed : Owed) : Type 0 where
  pub list : IsNodeList owed.nodes
  pub stands : IsNodeIn owed.nodes owed.form
  pub normal : IsNormal (tree_at owed.nodes owed.form)
  pub few_inputs : length owed.names.inputs < 17
  pub few_outputs : length owed.names.outputs < 17
