-- Witnesses over the truth of a formula's parts (testers of Kesten and Pnueli; the rule of justice of Manna and Pnueli; that their
-- premises are refuted by logs is this project's own).
use Rattle.std.specs.Prelude.{ℕ, List}
use Rattle.letters_and_lassos.specs.declared.kinds.Side.{Side}
use Rattle.ltl_formula.specs.declared.nodes.FormulaId.{FormulaId}
use Rattle.ltl_formula.specs.declared.nodes.Node.{Node}
use Rattle.aiger_text.specs.Circuit.{Circuit}
use Rattle.truth_witness.specs.declared.witnesses.Operands.{Operands}

-- One way in which the formula may come true: it does so at position 0 where `start` holds, and `inv` holds from then on; at each
-- step the number `rank` falls, or it stays while the until that `index` names is awaited. Of both the greatest bit stands first.
pub record Part : Type 0 where
  pub start : ℕ
  pub inv : ℕ
  pub rank : List ℕ
  pub index : List ℕ

-- Latches of its own, each by the literal of its next value (it is false at first), gates of its own, what holds at each position
-- where the formula is true at the start, and parts, all by literals.
pub record Witness : Type 0 where
  pub latches : List ℕ
  pub gates : List Operands
  pub always : ℕ
  pub parts : List Part

-- What is claimed: that the formula of a list is true on no run lasso of the circuit that plays the side; and the witness for it.
pub record Claim : Type 0 where
  pub side : Side
  pub circuit : Circuit
  pub nodes : List Node
  pub form : FormulaId
  pub witness : Witness
