-- Values and senses that are alike: the same number, set, bus, member or truth, or a flat formula with its truths.
use Rattle.std.proofs.Common.{◌≡◌, ℕ, Bool, List, [], ◌∷◌, ℤ, ap, ◌∙◌}
use Rattle.letters_and_lassos.specs.Word.{Word}
use Rattle.ltl_formula.specs.declared.nodes.FormulaId.{FormulaId}
use Rattle.ltl_formula.specs.declared.nodes.Node.{Node}
use Rattle.ltl_formula.specs.Nodes.{tree_at, IsNodeIn, Grows}
use Rattle.ltl_formula.specs.Truth.{holds}
use Rattle.ltl_formula.proofs.Trees.{tree_at-grown}
use Rattle.ltl_formula.proofs.Lists.{Grows-stands}
use Rattle.tlsf_values.specs.declared.value.Value.{Value}
use Rattle.tlsf_values.specs.declared.value.Value.TheVariants.{Number, Truth, Set, Bus, EnumValue, Flat}
use Rattle.tlsf_values.specs.declared.formula.Formula.{Formula}
use Rattle.tlsf_values.specs.declared.formula.Formula.TheVariants as formula
use Rattle.tlsf_values.specs.Names.{Binding}
use Rattle.tlsf_expand.specs.Senses.{Sense, a_number, a_set, a_bus, a_member, a_truth, a_formula}
use Rattle.tlsf_expand.specs.WrittenTruth.{BoundSense}

-- the flat formula has these truths at the positions of the lasso
pub record HasTruths (w : Word) (truths : ℕ → Bool) (id : FormulaId) (nodes : List Node) : Type 0 where
  pub stands : IsNodeIn nodes id
  pub same : holds w (tree_at nodes id) ≡ truths

pub data Alike (w : Word) (nodes : List Node) : Value → Sense → Type 0 where
  alike_number : (z : ℤ) → Alike w nodes (Number z) (a_number z)
  alike_set : (zs : List ℤ) → Alike w nodes (Set zs) (a_set zs)
  alike_bus : (k : ℕ) → Alike w nodes (Bus k) (a_bus k)
  alike_member : (k : ℕ) → Alike w nodes (EnumValue k) (a_member k)
  alike_truth : (b : Bool) → Alike w nodes (Truth b) (a_truth b)
  alike_formula : (id : FormulaId) (truths : ℕ → Bool) → HasTruths w truths id nodes → Alike w nodes (Flat id) (a_formula truths)

-- the same of what may stand where a formula is needed
pub data AlikeFormula (w : Word) (nodes : List Node) : Formula → Sense → Type 0 where
  alike_sure : (b : Bool) → AlikeFormula w nodes (formula.Sure b) (a_truth b)
  alike_flat : (id : FormulaId) (truths : ℕ → Bool) → HasTruths w truths id nodes → AlikeFormula w nodes (formula.Flat id) (a_formula truths)

pub data AlikeBindings (w : Word) (nodes : List Node) : List Binding → List BoundSense → Type 0 where
  alike_none : AlikeBindings w nodes [] []
  alike_more : (name : List ℕ) (v : Value) (s : Sense) (bs : List Binding) (ss : List BoundSense) → Alike w nodes v s → AlikeBindings w nodes bs ss
      → AlikeBindings w nodes (record { name = name; value = v } ∷ bs) (record { name = name; sense = s } ∷ ss)

-- ---- in a longer list

pub grown_truths : {w : Word} {truths : ℕ → Bool} {id : FormulaId} {old new : List Node} → Grows old new → HasTruths w truths id old → HasTruths w truths id new
grown_truths {w = w} {id = id} {old = old} {new = new} grows h =
    record { stands = Grows-stands old new id grows h.stands; same = ap (holds w) (tree_at-grown old new id grows h.stands) ∙ h.same }

pub grown : {w : Word} {old new : List Node} {v : Value} {s : Sense} → Grows old new → Alike w old v s → Alike w new v s
grown grows (alike_number z) = alike_number z
grown grows (alike_set zs) = alike_set zs
grown grows (alike_bus k) = alike_bus k
grown grows (alike_member k) = alike_member k
grown grows (alike_truth b) = alike_truth b
grown grows (alike_formula id truths h) = alike_formula id truths (grown_truths grows h)

pub grown_formula : {w : Word} {old new : List Node} {x : Formula} {s : Sense} → Grows old new → AlikeFormula w old x s → AlikeFormula w new x s
grown_formula grows (alike_sure b) = alike_sure b
grown_formula grows (alike_flat id truths h) = alike_flat id truths (grown_truths grows h)

pub grown_bindings : {w : Word} {old new : List Node} {bs : List Binding} {ss : List BoundSense} → Grows old new → AlikeBindings w old bs ss → AlikeBindings w new bs ss
grown_bindings grows alike_none = alike_none
grown_bindings grows (alike_more name v s bs ss h more) = alike_more name v s bs ss (grown grows h) (grown_bindings grows more)
