-- Both forms of a whole fit into a larger list too.
use Rattle.std.proofs.Common.{◌≡◌, ℕ, ◌≤◌, true, false, List, Option, None, Some, refl, sym, ap, ◌∙◌}
use Rattle.std.specs.Prelude.{option_and_then}
use Rattle.ltl_formula.specs.declared.nodes.FormulaId.{FormulaId}
use Rattle.ltl_formula.specs.declared.nodes.Node.{Node}
use Rattle.ltl_formula.specs.Added.{Built}
use Rattle.ltl_formula.specs.Nodes.{tree_at}
use Rattle.ltl_formula.specs.Tree.{Tree}
use Rattle.ltl_normal.specs.NormalNodes.{Step, form_in, go_on}
use Rattle.ltl_normal.proofs.Building.{go_on-Some, go_on-None}
use Rattle.solve_ground.specs.Forms.{BothForms, and_made, forms_of}
use Rattle.limit_laws.proofs.FormsFit.{Fits, form_fits}

-- what was made, and what comes after it
fits_and_made : {A : Type 0} (step wider : Step) (next later : List Node → FormulaId → Option A) (x : A) → Fits step wider → (nodes : List Node)
    → ((id : FormulaId) → next (step nodes).nodes id ≡ Some x → later (step nodes).nodes id ≡ Some x) → and_made (step nodes) next ≡ Some x → and_made (wider nodes) later ≡ Some x
fits_and_made step wider next later x fits nodes each = by (step nodes).made refl
  where
    by : (o : Option FormulaId) → (step nodes).made ≡ o → and_made (step nodes) next ≡ Some x → and_made (wider nodes) later ≡ Some x
    by None e some = let none : None ≡ Some x = sym (ap (option_and_then (next (step nodes).nodes)) e) ∙ some in cc
    by (Some id) e some =
        ap (λ (b : Built). and_made b later) (fits.same nodes id e) ∙ ap (option_and_then (later (step nodes).nodes)) e
        ∙ each id (sym (ap (option_and_then (next (step nodes).nodes)) e) ∙ some)

-- what is made of the list and the id behind the normal form, and behind the negated one
abbrev with_normal : FormulaId → List Node → FormulaId → Option BothForms
with_normal negated with_both normal = let forms : BothForms = record { nodes = with_both; negated = negated; normal = normal } in Some forms

abbrev with_negated : ℕ → Tree → List Node → FormulaId → Option BothForms
with_negated most f later negated = and_made (form_in most true f later) (with_normal negated)

module _ (most more : ℕ) (wider : most ≤ more) where
  pub forms_fit : (nodes : List Node) (whole : FormulaId) (forms : BothForms) → forms_of most nodes whole ≡ Some forms → forms_of more nodes whole ≡ Some forms
  forms_fit nodes whole forms =
      fits_and_made (form_in most false (tree_at nodes whole)) (form_in more false (tree_at nodes whole)) (with_negated most (tree_at nodes whole)) (with_negated more (tree_at nodes whole)) forms (form_fits most more wider false (tree_at nodes whole)) nodes (λ negated.
      fits_and_made (form_in most true (tree_at nodes whole)) (form_in more true (tree_at nodes whole)) (with_normal negated) (with_normal negated) forms (form_fits most more wider true (tree_at nodes whole)) (form_in most false (tree_at nodes whole) nodes).nodes
      (λ normal made. made))

  pub none_fit : (nodes : List Node) (whole : FormulaId) → forms_of more nodes whole ≡ None → forms_of most nodes whole ≡ None
  none_fit nodes whole none = by (forms_of most nodes whole) refl
    where
      by : (o : Option BothForms) → forms_of most nodes whole ≡ o → forms_of most nodes whole ≡ None
      by None e = e
      by (Some forms) e = let clash : Some forms ≡ None = sym (forms_fit nodes whole forms e) ∙ none in cc

-- where there are no forms, one of the two wasn't made
module _ (most : ℕ) (nodes : List Node) (whole : FormulaId) where
  abbrev written : Tree
  written = tree_at nodes whole

  second_not : (later : List Node) (negated : FormulaId) → with_negated most written later negated ≡ None → (o : Option FormulaId) → (form_in most true written later).made ≡ o → (form_in most true written later).made ≡ None
  second_not later negated none None e = e
  second_not later negated none (Some normal) e =
      let clash : with_normal negated (form_in most true written later).nodes normal ≡ None =
      sym (ap (option_and_then (with_normal negated (form_in most true written later).nodes)) e) ∙ none in cc

  pub one_not : forms_of most nodes whole ≡ None → (go_on (form_in most false written nodes) (λ negated later. form_in most true written later)).made ≡ None
  one_not none = by (form_in most false written nodes).made refl
    where
      by : (o : Option FormulaId) → (form_in most false written nodes).made ≡ o → (go_on (form_in most false written nodes) (λ negated later. form_in most true written later)).made ≡ None
      by None e = ap (λ (b : Built). b.made) (go_on-None (form_in most false written nodes) (λ negated later. form_in most true written later) e)
      by (Some negated) e =
          ap (λ (b : Built). b.made) (go_on-Some (form_in most false written nodes) (λ negated later. form_in most true written later) negated e)
          ∙ second_not (form_in most false written nodes).nodes negated (sym (ap (option_and_then (with_negated most written (form_in most false written nodes).nodes)) e) ∙ none)
          (form_in most true written (form_in most false written nodes).nodes).made refl
