-- A list in which a form was built has each formula that was made on the way.
use Rattle.std.proofs.Common.{◌≡◌, ℕ, Bool, true, false, List, Option, None, Some, refl, sym, ap, subst, ◌∙◌}
use Rattle.std.specs.Prelude.{◌==◌}
use Rattle.std.proofs.lemmas.Option.{none-some}
use Rattle.ltl_formula.specs.declared.nodes.FormulaId.{FormulaId}
use Rattle.ltl_formula.specs.declared.nodes.Node.{Node}
use Rattle.ltl_formula.specs.declared.nodes.Node.TheVariants as node
use Rattle.ltl_formula.specs.declared.nodes.TheConstants.{MAX_SIGNALS}
use Rattle.ltl_formula.specs.Tree.{Tree}
use Rattle.ltl_formula.specs.Tree.Tree.{signal}
use Rattle.ltl_formula.specs.Nodes.{Grows, IsNodeList, IsNodeIn, tree_at}
use Rattle.ltl_formula.specs.Added.{Built, added}
use Rattle.ltl_formula.proofs.Trees.{tree_at-grown}
use Rattle.ltl_formula.proofs.Lists.{Grows-refl, Grows-trans, Grows-stands, Grows-added}
use Rattle.ltl_normal.specs.declared.simplify.Outcome.{Outcome}
use Rattle.ltl_normal.specs.declared.simplify.Outcome.TheVariants.{First, Second, Whole}
use Rattle.ltl_normal.specs.Simplify.{outcome_of}
use Rattle.ltl_normal.specs.NormalTrees.{trees}
use Rattle.ltl_normal.specs.NormalNodes.{Step, chosen_step, constant_at, form_in, go_on, join_ids, next_id, next_step, nodes_to, whole_node}
use Rattle.ltl_normal.proofs.Building.{Builds, BuildsIn, Builds-form_in, IsMade, go_on-None, go_on-Some}
use Rattle.taken_laws.proofs.Forms.{Form, HasSignalsBelow, below_written, fold, fold_is_table, of_constant, of_join, of_literal, of_next, tree, written}

-- P holds of each formula that is made on the way to a form
abbrev pub OfEach : (Tree → Type 0) → Form → Type 0
OfEach P (of_constant value) = P (tree (of_constant value))
OfEach P (of_literal keep s) = P (signal s) × P (tree (of_literal keep s))
OfEach P (of_next a) = OfEach P a × P (tree (of_next a))
OfEach P (of_join joint a b) = OfEach P a × OfEach P b × P (tree (of_join joint a b))

-- a formula that stands in a list
pub record IsIn (nodes : List Node) (f : Tree) : Type 0 where
  pub id : FormulaId
  pub stands : IsNodeIn nodes id
  pub tree_is : tree_at nodes id ≡ f

-- a step that went on after another one
pub record WentOn (built : Built) (next : FormulaId → Step) (id : FormulaId) : Type 0 where
  pub first : FormulaId
  pub made : built.made ≡ Some first
  pub is : go_on built next ≡ next first built.nodes
  pub then : (next first built.nodes).made ≡ Some id

pub went_on : (built : Built) (next : FormulaId → Step) (id : FormulaId) → (go_on built next).made ≡ Some id → WentOn built next id
went_on built next id made = by built.made refl
  where
    by : (o : Option FormulaId) → built.made ≡ o → WentOn built next id
    by None e = absurd (none-some id (sym (ap (λ (b : Built). b.made) (go_on-None built next e)) ∙ made))
    by (Some first) e =
        let is : go_on built next ≡ next first built.nodes = go_on-Some built next first e in
        record { first = first; made = e; is = is; then = sym (ap (λ (b : Built). b.made) is) ∙ made }

module _ (most : ℕ) where
  abbrev pub step : Form → Step
  step f = fold (nodes_to most) f

  pub builds : (f : Form) → HasSignalsBelow MAX_SIGNALS f → Builds (tree f) (step f)
  builds f below =
      subst (λ (s : Step). Builds (tree f) s) (fold_is_table (nodes_to most) f)
      (subst (λ (t : Tree). Builds t (form_in most true (written f))) (fold_is_table trees f) (Builds-form_in most true (written f) (below_written MAX_SIGNALS f below)))

  -- ---- lists grow

  grows_next : (a : FormulaId) (nodes : List Node) (o : Option Bool) → Grows nodes (next_step most o a nodes).nodes
  grows_next a nodes (Some value) = Grows-refl nodes
  grows_next a nodes None = Grows-added most nodes (node.Next a)

  grows_chosen : (o : Outcome) (a b : FormulaId) (whole : Node) (nodes : List Node) → Grows nodes (chosen_step most o a b whole nodes).nodes
  grows_chosen First a b whole nodes = Grows-refl nodes
  grows_chosen Second a b whole nodes = Grows-refl nodes
  grows_chosen Whole a b whole nodes = Grows-added most nodes whole

  -- ---- what was made stands in each longer list

  module _ (end : List Node) where
    made_in : (f : Tree) (s : Step) (nodes : List Node) (id : FormulaId) → BuildsIn f s nodes → (s nodes).made ≡ Some id → Grows (s nodes).nodes end → IsIn end f
    made_in f s nodes id built made grows =
        let m : IsMade f s (s nodes).nodes id = built.made id made in
        record { id = id; stands = Grows-stands (s nodes).nodes end id grows m.stands; tree_is = tree_at-grown (s nodes).nodes end id grows m.stands ∙ m.tree }

    pub each_in : (f : Form) → HasSignalsBelow MAX_SIGNALS f → (nodes : List Node) → IsNodeList nodes → (id : FormulaId) → (step f nodes).made ≡ Some id
        → Grows (step f nodes).nodes end → OfEach (IsIn end) f
    each_in (of_constant value) below nodes list id made grows =
        made_in (tree (of_constant value)) (step (of_constant value)) nodes id (builds (of_constant value) below nodes list) made grows
    each_in (of_literal true s) below nodes list id made grows =
        let here = made_in (signal s) (step (of_literal true s)) nodes id (builds (of_literal true s) below nodes list) made grows in (here, here)
    each_in (of_literal false s) below nodes list id made grows =
        let next : FormulaId → Step = λ x later. added most later (node.Not x) in
        let before : Built = added most nodes (node.Signal s) in
        let w : WentOn before next id = went_on before next id made in
        let longer : Grows before.nodes end =
        Grows-trans before.nodes (added most before.nodes (node.Not w.first)).nodes end (Grows-added most before.nodes (node.Not w.first))
        (subst (λ (b : Built). Grows b.nodes end) w.is grows) in (
          made_in (signal s) (step (of_literal true s)) nodes w.first (builds (of_literal true s) below nodes list) w.made longer,
          made_in (tree (of_literal false s)) (step (of_literal false s)) nodes id (builds (of_literal false s) below nodes list) made grows,
        )
    each_in (of_next a) below nodes list id made grows =
        let before : Built = step a nodes in
        let w : WentOn before (next_id most) id = went_on before (next_id most) id made in
        let longer : Grows before.nodes end =
        Grows-trans before.nodes (next_id most w.first before.nodes).nodes end (grows_next w.first before.nodes (constant_at before.nodes w.first))
        (subst (λ (b : Built). Grows b.nodes end) w.is grows) in (
          each_in a below nodes list w.first w.made longer,
          made_in (tree (of_next a)) (step (of_next a)) nodes id (builds (of_next a) below nodes list) made grows,
        )
    each_in (of_join joint a b) below nodes list id made grows =
        let first : Built = step a nodes in
        let behind : FormulaId → Step = λ x later. go_on (step b later) (join_ids most joint x) in
        let w : WentOn first behind id = went_on first behind id made in
        let second : Built = step b first.nodes in
        let u : WentOn second (join_ids most joint w.first) id = went_on second (join_ids most joint w.first) id w.then in
        let built : BuildsIn (tree a) (step a) nodes = builds a below.0 nodes list in
        let more : BuildsIn (tree b) (step b) first.nodes = builds b below.1 first.nodes built.list in
        let last : Grows second.nodes end =
        Grows-trans second.nodes (join_ids most joint w.first u.first second.nodes).nodes end
        (grows_chosen (outcome_of joint (constant_at second.nodes w.first) (constant_at second.nodes u.first) (w.first.0 == u.first.0)) w.first u.first
        (whole_node joint w.first u.first) second.nodes)
        (subst (λ (b : Built). Grows b.nodes end) (w.is ∙ u.is) grows) in
        let longer : Grows first.nodes end = Grows-trans first.nodes second.nodes end more.grows last in (
          each_in a below.0 nodes list w.first w.made longer,
          each_in b below.1 first.nodes built.list u.first u.made last,
          made_in (tree (of_join joint a b)) (step (of_join joint a b)) nodes id (builds (of_join joint a b) below nodes list) made grows,
        )
