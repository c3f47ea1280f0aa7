-- What a document of version 6 is tested against: a text as it is taken (this project's own).
use Rattle.std.specs.Prelude.{Bool, ◌&&◌, is_some}
use Rattle.std.specs.Bool.{beq}
use Rattle.letters_and_lassos.specs.declared.kinds.Kind.{Kind}
use Rattle.letters_and_lassos.specs.declared.kinds.Side.{Side}
use Rattle.letters_and_lassos.specs.declared.kinds.Side.TheVariants.{System, Environment}
use Rattle.letters_and_lassos.specs.contracts.kinds.KindPartialEq.TheImpl.{ghosts as kind_ghosts}
use Rattle.letters_and_lassos.specs.Kinds.{other_kind}
use Rattle.ltl_formula.specs.declared.nodes.FormulaId.{FormulaId}
use Rattle.circuit_names.specs.Names.{Names}
use Rattle.solve_ground.specs.declared.texts.SolveText.{SolveText}
use Rattle.solve_ground.specs.Forms.{form_of}
use Rattle.solve_ground.specs.SolveText.{forms_seen}

-- the names alone
abbrev pub names_in : SolveText → Names
names_in t = record { inputs = t.inputs.items; outputs = t.outputs.items }

-- the kind of a side's machines: those of the environment are of the other kind than the system's
abbrev pub kind_for : SolveText → Side → Kind
kind_for t System = t.kind
kind_for t Environment = other_kind t.kind

-- what a side keeps from being true: what its annotation is over
abbrev pub form_for : SolveText → Side → FormulaId
form_for t side = form_of side (forms_seen t)

-- the text is taken for machines of this kind, and it is converted exactly where that is said
abbrev pub is_taken_so : SolveText → Kind → Bool → Bool
is_taken_so t kind converted = kind_ghosts.eq t.kind kind && beq (is_some t.semantics) converted
