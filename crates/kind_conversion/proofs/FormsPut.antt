-- One node's form, put by the code.
use Rattle.std.proofs.Common.{◌≡◌, ℕ, Bool, true, false, cond, List, length, Option, None, Some, Result, Ok, Err, All, refl, sym, ap, ◌∙◌}
use Rattle.std.proofs.lemmas.Option.{none-some}
use Rattle.ltl_formula.specs.declared.faults.AddFault.{AddFault}
use Rattle.ltl_formula.specs.declared.faults.AddFault.TheVariants.{TooManyNodes, NoMemory}
use Rattle.ltl_formula.specs.declared.nodes.FormulaId.{FormulaId}
use Rattle.ltl_formula.specs.declared.nodes.Node.{Node}
use Rattle.ltl_formula.specs.declared.nodes.Node.TheVariants.{Next}
use Rattle.ltl_formula.specs.Nodes.{PartsBelow, IsNodeIn}
use Rattle.ltl_formula.specs.Added.{added}
use Rattle.kind_conversion.specs.declared.shifts.Shift.{Shift}
use Rattle.kind_conversion.specs.ShiftedList.{over_forms, is_shifted_node, then_next, put_form}
use Rattle.kind_conversion.proofs.ListsMade.{parts-over}

pub over-stands : (forms : List FormulaId) (node : Node) (nodes : List Node) → PartsBelow (length forms) node → All (λ id. IsNodeIn nodes id) forms → PartsBelow (length nodes) (over_forms forms node)
over-stands forms node nodes parts stand = parts-over forms (length nodes) (length forms) node parts (λ p h. stand p.0 (record { 0 = 0 }) h)

module _ (most : ℕ) (shift : Shift) (inputs : ℕ) (forms : List FormulaId) (node : Node) (nodes : List Node) (whole : Node) (is : whole ≡ over_forms forms node) where
  -- what is put, where it is known whether the node is a shifted signal
  by_test : (b : Bool) → is_shifted_node shift inputs node ≡ b → put_form most shift inputs forms node nodes ≡ cond b (then_next most (added most nodes whole)) (added most nodes whole)
  by_test b e = ap (λ x. cond (is_shifted_node shift inputs node) (then_next most (added most nodes x)) (added most nodes x)) (sym is) ∙ ap (λ t. cond t (then_next most (added most nodes whole)) (added most nodes whole)) e

  pub put-kept : is_shifted_node shift inputs node ≡ false → put_form most shift inputs forms node nodes ≡ added most nodes whole
  put-kept e = by_test false e

  pub put-next : (new : List Node) (mid : FormulaId) → is_shifted_node shift inputs node ≡ true → added most nodes whole ≡ record { nodes = new; made = Some mid }
      → put_form most shift inputs forms node nodes ≡ added most new (Next mid)
  put-next new mid e put = by_test true e ∙ ap (then_next most) put

  pub put-none : (added most nodes whole).made ≡ None → (put_form most shift inputs forms node nodes).made ≡ None
  put-none none = ap (λ b. b.made) (by_test (is_shifted_node shift inputs node) refl) ∙ by (is_shifted_node shift inputs node)
    where
      next-none : (o : Option FormulaId) → o ≡ None → (then_next most (record { nodes = (added most nodes whole).nodes; made = o })).made ≡ None
      next-none None e = refl
      next-none (Some id) e = absurd (none-some id (sym e))

      by : (b : Bool) → (cond b (then_next most (added most nodes whole)) (added most nodes whole)).made ≡ None
      by true = next-none (added most nodes whole).made none
      by false = none

-- the fault of a result
pub same_fault : {A : Type 0} (r : Result A AddFault) (x y e : AddFault) → r ≡ Err x → x ≡ y → r ≡ Err e → y ≡ e
same_fault {A = A} r x y e is same h = let k : ◌≡◌ {A = Result A AddFault} (Err x) (Err e) = sym is ∙ h in cc

pub no_memory-full : (x : AddFault) → x ≡ NoMemory → x ≡ TooManyNodes → ⊥
no_memory-full x a b = let k : NoMemory ≡ TooManyNodes = sym a ∙ b in cc

pub ok-err : {A : Type 0} (x : A) (e : AddFault) → ◌≡◌ {A = Result A AddFault} (Ok x) (Err e) → ⊥
ok-err x e h = cc
