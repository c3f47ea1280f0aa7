-- Both forms of a formula, made one after the other.
use Rattle.std.proofs.Common.{◌≡◌, ℕ, true, false, List, Option, Some, None, sym, ap, subst, ◌∙◌}
use Rattle.letters_and_lassos.proofs.Positions.{first_position}
use Rattle.ltl_formula.specs.declared.nodes.FormulaId.{FormulaId}
use Rattle.ltl_formula.specs.declared.nodes.Node.{Node}
use Rattle.ltl_formula.specs.Added.{Built}
use Rattle.ltl_formula.specs.NormalForm.{IsNormal}
use Rattle.ltl_formula.specs.Nodes.{Grows, IsNodeList, IsNodeIn, tree_at}
use Rattle.ltl_formula.specs.Tree.{Tree}
use Rattle.ltl_formula.specs.Truth.{holds}
use Rattle.ltl_formula.proofs.Lists.{Grows-stands}
use Rattle.ltl_formula.proofs.Trees.{tree_at-grown}
use Rattle.ltl_normal.specs.NormalNodes.{form_in}
use Rattle.ltl_normal.specs.Truths.{HasTruthOf, OpposesTruthOf}
use Rattle.solve_ground.specs.Forms.{BothForms, and_made, forms_of}
use Rattle.solve_ground.specs.Parts.{AreFormsOf}

-- what is left to be done behind the negated form, and behind the normal one
abbrev with_normal : FormulaId → Built → Option BothForms
with_normal negated built = and_made built (λ nodes normal. let forms : BothForms = record { nodes = nodes; negated = negated; normal = normal } in Some forms)

abbrev with_negated : ℕ → Tree → Built → Option BothForms
with_negated most f built = and_made built (λ nodes negated. with_normal negated (form_in most true f nodes))

module _ (most : ℕ) (old between : List Node) (whole negated : FormulaId) (grows : Grows old between) (stands : IsNodeIn old whole)
    (first : form_in most false (tree_at old whole) old ≡ record { nodes = between; made = Some negated }) where
  same_tree : tree_at between whole ≡ tree_at old whole
  same_tree = tree_at-grown old between whole grows stands

  then_normal : (built : Built) → form_in most true (tree_at between whole) between ≡ built → forms_of most old whole ≡ with_normal negated built
  then_normal built second = ap (with_negated most (tree_at old whole)) first ∙ ap (λ f. with_normal negated (form_in most true f between)) (sym same_tree) ∙ ap (with_normal negated) second

  module _ (new : List Node) where
    pub no_normal : form_in most true (tree_at between whole) between ≡ record { nodes = new; made = None } → forms_of most old whole ≡ None
    no_normal second = then_normal (record { nodes = new; made = None }) second

    pub forms_made : (normal : FormulaId) → form_in most true (tree_at between whole) between ≡ record { nodes = new; made = Some normal }
        → forms_of most old whole ≡ Some (record { nodes = new; negated = negated; normal = normal })
    forms_made normal second = then_normal (record { nodes = new; made = Some normal }) second

    -- what both say of the formula, in the list after both
    pub forms_say : (normal : FormulaId) → IsNodeList new → Grows between new → IsNodeIn between negated → IsNormal (tree_at between negated) → OpposesTruthOf (tree_at old whole) (tree_at between negated)
        → IsNodeIn new normal → IsNormal (tree_at new normal) → HasTruthOf (tree_at between whole) (tree_at new normal)
        → AreFormsOf (tree_at old whole) (record { nodes = new; negated = negated; normal = normal })
    forms_say normal list later negated_stands negated_normal opposes normal_stands normal_normal keeps =
        let same : tree_at new negated ≡ tree_at between negated = tree_at-grown between new negated later negated_stands in
        record {
          list = list;
          negated_stands = Grows-stands between new negated later negated_stands;
          negated_normal = subst IsNormal (sym same) negated_normal;
          negated_says = λ w ring. ap (λ f. holds w f 0) same ∙ opposes.opposite w 0 ring (first_position w ring);
          normal_stands = normal_stands;
          normal_normal = normal_normal;
          normal_says = λ w ring. keeps.same w 0 ring (first_position w ring) ∙ ap (λ f. holds w f 0) same_tree;
        }
