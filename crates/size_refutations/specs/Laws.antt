-- Laws of the logs of a document of version 6.
use Rattle.std.specs.Prelude.{◌≡◌, ◌↔◌, ℕ, ◌≤◌, not, Option, None, length}
use Rattle.text_limits.specs.declared.TheConstants.{LARGE_LIMITS}
use Rattle.letters_and_lassos.specs.declared.kinds.Side.TheVariants.{System, Environment}
use Rattle.letters_and_lassos.specs.Kinds.{other_kind}
use Rattle.letters_and_lassos.specs.Word.{Word, HasRing}
use Rattle.ltl_formula.specs.NormalForm.{IsNormal}
use Rattle.ltl_formula.specs.Nodes.{IsNodeList, IsNodeIn, tree_at}
use Rattle.ltl_formula.specs.Truth.{holds}
use Rattle.satisfaction.specs.Satisfaction.{EachCanLose, NoneSatisfies}
use Rattle.satisfaction.specs.Wanted.{Wanted}
use Rattle.solved_text.specs.Parts.{SizeLog}
use Rattle.size_refutations.specs.FirstBad.{LogFails}
use Rattle.size_refutations.specs.Ground.{LogGround}
use Rattle.size_refutations.specs.Holds.{LogHolds}

-- one answer at most is right, and a log has no line at which it fails exactly where it holds (this project's own)
pub record LogsAreDetermined : Type 0 where
  pub one : (g : LogGround) (l : SizeLog) (a b : Option ℕ) → LogFails g l a → LogFails g l b → a ≡ b
  pub holding : (g : LogGround) (l : SizeLog) → LogFails g l None ↔ LogHolds g l

-- the ground's form stands in its list in normal form, and its signals are those of what is wanted, as few as the larger limits allow
pub record IsGroundFor (g : LogGround) (x : Wanted) : Type 0 where
  pub list : IsNodeList g.nodes
  pub stands : IsNodeIn g.nodes g.form
  pub normal : IsNormal (tree_at g.nodes g.form)
  pub inputs : g.inputs ≡ length x.inputs
  pub outputs : g.outputs ≡ length x.outputs
  pub few_inputs : g.inputs ≤ LARGE_LIMITS.signals
  pub few_outputs : g.outputs ≤ LARGE_LIMITS.signals

-- the system's ground: its form is true on exactly the lassos on which what is wanted isn't
pub record IsSystemGround (g : LogGround) (x : Wanted) : Type 0 where
  pub ground_for : IsGroundFor g x
  pub of_system : g.side ≡ System
  pub kind_is : g.kind ≡ x.kind
  pub says : (w : Word) → HasRing w → holds w (tree_at g.nodes g.form) 0 ≡ not (x.means w)

-- the environment's ground: its form is true on exactly the lassos on which what is wanted is
pub record IsEnvironmentGround (g : LogGround) (x : Wanted) : Type 0 where
  pub ground_for : IsGroundFor g x
  pub of_environment : g.side ≡ Environment
  pub kind_is : g.kind ≡ other_kind x.kind
  pub says : (w : Word) → HasRing w → holds w (tree_at g.nodes g.form) 0 ≡ x.means w

-- a log that holds refutes its size: no machine of so many states satisfies, or each of the environment can lose (bounded synthesis of Finkbeiner
-- and Schewe; clausal proofs)
pub record HoldingLogsRefute : Type 0 where
  pub systems : (g : LogGround) (l : SizeLog) (x : Wanted) → IsSystemGround g x → LogHolds g l → NoneSatisfies x l.size
  pub environments : (g : LogGround) (l : SizeLog) (x : Wanted) → IsEnvironmentGround g x → LogHolds g l → EachCanLose x l.size
