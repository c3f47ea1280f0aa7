use Rattle.std.proofs.Common.{◌≡◌, ℕ, ◌<◌, Bool, true, false, cond, ltb, eqb, inl, inr, List, [], ◌∷◌, ◌++◌, length, Option, None, Some, refl, sym, ap, subst, ◌∙◌}
use Rattle.std.specs.Prelude.{min, not, position, slice_get}
use Rattle.std.proofs.lemmas.Bool.{cases_Bool, eqb-true, eq-eqb, true≢false, ltb-true, false_from_ne_true}
use Rattle.std.proofs.lemmas.List.{append-nil}
use Rattle.std.proofs.lemmas.Option.{none-some, same_Some, slice_get_within}
use Rattle.ltl_formula.specs.declared.nodes.FormulaId.{FormulaId}
use Rattle.ltl_formula.specs.declared.nodes.Node.{Node}
use Rattle.ltl_formula.specs.declared.nodes.Node.TheVariants as node
use Rattle.ltl_formula.specs.declared.nodes.TheConstants.{MAX_NODES, MAX_SIGNALS}
use Rattle.ltl_formula.specs.Tree.{Tree, SignalsBelow}
use Rattle.ltl_formula.specs.Tree.Tree.{truth, falsity, signal, negation, next_time, finally, globally, conjunction, disjunction, implication, equivalence, until, release, weak_until}
use Rattle.ltl_formula.specs.Nodes.{Grows, IsNodeList, PartsBelow, SignalBelow, IsNodeIn, pick, tree_at, tree_of, trees_of, node_at}
use Rattle.ltl_formula.specs.Added.{Built, added, built_at, node_eq}
use Rattle.ltl_formula.proofs.Trees.{tree_at-grown, tree_at-node, tree_of-parts}
use Rattle.ltl_formula.proofs.Lists.{Grows-refl, Grows-trans, Grows-stands, Grows-node_at, Grows-added, room_below, IsNodeList-append, added-again, added-stands, tree_at-slice_get, one_id_per_formula}
use Rattle.ltl_normal.specs.declared.simplify.Joint.{Joint}
use Rattle.ltl_normal.specs.declared.simplify.Joint.TheVariants.{And, Or, Until, Release}
use Rattle.ltl_normal.specs.declared.simplify.Outcome.{Outcome}
use Rattle.ltl_normal.specs.declared.simplify.Outcome.TheVariants.{First, Second, Whole}
use Rattle.ltl_normal.specs.Simplify.{constant_of, facing_of, outcome_of}
use Rattle.ltl_normal.specs.Table.{table}
use Rattle.ltl_normal.specs.NormalTrees.{tree_eq, constant_tree, whole_tree, chosen, joint_tree, next_of, trees}
use Rattle.ltl_normal.specs.NormalNodes.{Step, go_on, gives, whole_node, constant_at, chosen_step, join_ids, next_step, next_id, nodes_to, form_in}
use Rattle.ltl_normal.proofs.TreeEquality.{tree_eq-true, tree_eq-self}
use Rattle.ltl_formula.proofs.NodeEquality.{same_id_of}

-- what a step made in a list: the id names the formula there, and the same step makes it again, with no node more, in
-- every longer list
pub record IsMade (f : Tree) (step : Step) (nodes : List Node) (id : FormulaId) : Type 0 where
  pub stands : IsNodeIn nodes id
  pub tree : tree_at nodes id ≡ f
  pub again : (longer : List Node) → IsNodeList longer → Grows nodes longer → step longer ≡ record { nodes = longer; made = Some id }

-- a step that builds the formula in a list, or runs out of room
pub record BuildsIn (f : Tree) (step : Step) (nodes : List Node) : Type 0 where
  pub grows : Grows nodes (step nodes).nodes
  pub list : IsNodeList (step nodes).nodes
  pub made : (id : FormulaId) → (step nodes).made ≡ Some id → IsMade f step (step nodes).nodes id

abbrev pub Builds : Tree → Step → Type 0
Builds f step = (nodes : List Node) → IsNodeList nodes → BuildsIn f step nodes

-- adding a node
module _ (most : ℕ) (nodes : List Node) (new : Node) (list : IsNodeList nodes) (parts : PartsBelow (length nodes) new) (signals : SignalBelow MAX_SIGNALS new) where
  pub added-list : IsNodeList (added most nodes new).nodes
  added-list = by (position (node_eq new) nodes) refl
    where
      by : (o : Option ℕ) → position (node_eq new) nodes ≡ o → IsNodeList (built_at most o nodes new).nodes
      by (Some i) found = list
      by None none = room (ltb (length nodes) (min most MAX_NODES)) refl
        where
          room : (b : Bool) → ltb (length nodes) (min most MAX_NODES) ≡ b
              → IsNodeList (cond b (let x : Built = record { nodes = nodes ++ new ∷ []; made = Some (record { 0 = length nodes }) } in x) (let x : Built = record { nodes = nodes; made = None } in x)).nodes
          room true e = IsNodeList-append nodes new list parts signals none (room_below most (length nodes) (ltb-true (length nodes) (min most MAX_NODES) e))
          room false e = list

  pub added-made : (id : FormulaId) → (added most nodes new).made ≡ Some id → IsMade (tree_of (trees_of nodes) new) (λ ns. added most ns new) (added most nodes new).nodes id
  added-made id made =
      let at : slice_get (added most nodes new).nodes id.0 ≡ Some new = ap (λ ns. slice_get ns id.0) (sym (append-nil (added most nodes new).nodes)) ∙ added-stands most nodes new [] id made in
      record {
        stands = slice_get_within (added most nodes new).nodes id.0 new at;
        tree = tree_at-slice_get (added most nodes new).nodes new id.0 added-list at
            ∙ sym (tree_of-parts (length nodes) (trees_of nodes) (trees_of (added most nodes new).nodes) new parts (λ p h. sym (tree_at-grown nodes (added most nodes new).nodes p (Grows-added most nodes new) h)));
        again = λ longer _ grows. rw grows.appended (added-again most nodes new grows.more id made);
      }

  pub BuildsIn-added : BuildsIn (tree_of (trees_of nodes) new) (λ ns. added most ns new) nodes
  BuildsIn-added = record { grows = Grows-added most nodes new; list = added-list; made = added-made }

-- nothing is added: a part that stands is the result
pub IsMade-gives : (nodes : List Node) (id : FormulaId) → IsNodeIn nodes id → IsMade (tree_at nodes id) (gives id) nodes id
IsMade-gives nodes id h = record { stands = h; tree = refl; again = λ longer _ grows. refl }

-- the constant that a node is, its formula is
constant-tree_of : (T : List Tree) (n : Node) → constant_of n ≡ constant_tree (tree_of T n)
constant-tree_of T node.True = refl
constant-tree_of T node.False = refl
constant-tree_of T (node.Signal s) = refl
constant-tree_of T (node.Not a) = refl
constant-tree_of T (node.Next a) = refl
constant-tree_of T (node.Finally a) = refl
constant-tree_of T (node.Globally a) = refl
constant-tree_of T (node.And a b) = refl
constant-tree_of T (node.Or a b) = refl
constant-tree_of T (node.Implies a b) = refl
constant-tree_of T (node.Equiv a b) = refl
constant-tree_of T (node.Until a b) = refl
constant-tree_of T (node.Release a b) = refl
constant-tree_of T (node.WeakUntil a b) = refl

pub constant_at-tree : (nodes : List Node) (id : FormulaId) → IsNodeList nodes → IsNodeIn nodes id → constant_at nodes id ≡ constant_tree (tree_at nodes id)
constant_at-tree nodes id list h =
    constant-tree_of (trees_of nodes) (node_at nodes id.0) ∙ ap constant_tree (sym (tree_at-node nodes id.0 h (list.parts_first id.0)))

-- equal ids are equal formulas
pub same-tree_eq : (nodes : List Node) (a b : FormulaId) → IsNodeList nodes → IsNodeIn nodes a → IsNodeIn nodes b → eqb a.0 b.0 ≡ tree_eq (tree_at nodes a) (tree_at nodes b)
same-tree_eq nodes a b list ha hb =
    elim (cases_Bool (tree_eq (tree_at nodes a) (tree_at nodes b))) [
      | inl is ↦
          eq-eqb a.0 b.0 (ap (λ id. id.0) (one_id_per_formula nodes a b list ha hb (tree_eq-true (tree_at nodes a) (tree_at nodes b) is))) ∙ sym is
      | inr isnt ↦
          false_from_ne_true (eqb a.0 b.0) (λ same.
          true≢false (sym (tree_eq-self (tree_at nodes a)) ∙ ap (λ id. tree_eq (tree_at nodes a) (tree_at nodes id)) (same_id_of a b (eqb-true a.0 b.0 same)) ∙ isnt)) ∙ sym isnt
    ]

pub parts-whole_node : (joint : Joint) (a b : FormulaId) (n : ℕ) → a.0 < n → b.0 < n → PartsBelow n (whole_node joint a b)
parts-whole_node And a b n x y = (x, y)
parts-whole_node Or a b n x y = (x, y)
parts-whole_node Until a b n x y = (x, y)
parts-whole_node Release a b n x y = (x, y)

pub signal-whole_node : (joint : Joint) (a b : FormulaId) (n : ℕ) → SignalBelow n (whole_node joint a b)
signal-whole_node And a b n = tt
signal-whole_node Or a b n = tt
signal-whole_node Until a b n = tt
signal-whole_node Release a b n = tt

tree_of-whole_node : (T : List Tree) (joint : Joint) (a b : FormulaId) → tree_of T (whole_node joint a b) ≡ whole_tree joint (pick T a) (pick T b)
tree_of-whole_node T And a b = refl
tree_of-whole_node T Or a b = refl
tree_of-whole_node T Until a b = refl
tree_of-whole_node T Release a b = refl

-- what follows a step that made an id, and one that made none
pub go_on-Some : (built : Built) (next : FormulaId → Step) (id : FormulaId) → built.made ≡ Some id → go_on built next ≡ next id built.nodes
go_on-Some built next id e = ap (λ o. go_on (record { nodes = built.nodes; made = o }) next) e

pub go_on-None : (built : Built) (next : FormulaId → Step) → built.made ≡ None → go_on built next ≡ record { nodes = built.nodes; made = None }
go_on-None built next e = ap (λ o. go_on (record { nodes = built.nodes; made = o }) next) e

module _ (most : ℕ) where
  -- joining parts that stand
  module _ (joint : Joint) (a b : FormulaId) (nodes : List Node) (list : IsNodeList nodes) (ha : IsNodeIn nodes a) (hb : IsNodeIn nodes b) where
    BuildsIn-chosen : (o : Outcome) → BuildsIn (chosen o (tree_at nodes a) (tree_at nodes b) (whole_tree joint (tree_at nodes a) (tree_at nodes b))) (chosen_step most o a b (whole_node joint a b)) nodes
    BuildsIn-chosen First = record {
      grows = Grows-refl nodes;
      list = list;
      made = λ id e. subst (IsMade (tree_at nodes a) (gives a) nodes) (same_Some a id e) (IsMade-gives nodes a ha);
    }
    BuildsIn-chosen Second = record {
      grows = Grows-refl nodes;
      list = list;
      made = λ id e. subst (IsMade (tree_at nodes b) (gives b) nodes) (same_Some b id e) (IsMade-gives nodes b hb);
    }
    BuildsIn-chosen Whole =
        subst (λ f. BuildsIn f (λ ns. added most ns (whole_node joint a b)) nodes) (tree_of-whole_node (trees_of nodes) joint a b)
        (BuildsIn-added most nodes (whole_node joint a b) list (parts-whole_node joint a b (length nodes) ha hb) (signal-whole_node joint a b MAX_SIGNALS))

    outcome_at : List Node → Outcome
    outcome_at ns = outcome_of joint (constant_at ns a) (constant_at ns b) (eqb a.0 b.0)

    outcome-tree : outcome_at nodes ≡ outcome_of joint (constant_tree (tree_at nodes a)) (constant_tree (tree_at nodes b)) (tree_eq (tree_at nodes a) (tree_at nodes b))
    unfolding outcome_at
    outcome-tree =
        let x = constant_at-tree nodes a list ha in
        let y = constant_at-tree nodes b list hb in
        let z = same-tree_eq nodes a b list ha hb in
        ap (λ c. outcome_of joint c (constant_at nodes b) (eqb a.0 b.0)) x ∙ ap (λ c. outcome_of joint (constant_tree (tree_at nodes a)) c (eqb a.0 b.0)) y
        ∙ ap (outcome_of joint (constant_tree (tree_at nodes a)) (constant_tree (tree_at nodes b))) z

    outcome-longer : (longer : List Node) → Grows nodes longer → outcome_at longer ≡ outcome_at nodes
    unfolding outcome_at
    outcome-longer longer grows =
        ap (λ n. outcome_of joint (constant_of n) (constant_at longer b) (eqb a.0 b.0)) (Grows-node_at nodes longer a.0 grows ha)
        ∙ ap (λ n. outcome_of joint (constant_at nodes a) (constant_of n) (eqb a.0 b.0)) (Grows-node_at nodes longer b.0 grows hb)

    pub BuildsIn-join_ids : BuildsIn (joint_tree joint (tree_at nodes a) (tree_at nodes b)) (join_ids most joint a b) nodes
    unfolding outcome_at
    BuildsIn-join_ids =
        let chosen_here = BuildsIn-chosen (outcome_at nodes) in
        record {
          grows = chosen_here.grows;
          list = chosen_here.list;
          made = λ id e.
              let made = chosen_here.made id e in
              record {
                stands = made.stands;
                tree = made.tree ∙ ap (λ o. chosen o (tree_at nodes a) (tree_at nodes b) (whole_tree joint (tree_at nodes a) (tree_at nodes b))) outcome-tree;
                again = λ longer fits grows.
                    ap (λ o. chosen_step most o a b (whole_node joint a b) longer) (outcome-longer longer (Grows-trans nodes (chosen_step most (outcome_at nodes) a b (whole_node joint a b) nodes).nodes longer chosen_here.grows grows))
                    ∙ made.again longer fits grows;
              };
        }

  -- Next of a part that stands
  module _ (a : FormulaId) (nodes : List Node) (list : IsNodeList nodes) (ha : IsNodeIn nodes a) where
    BuildsIn-next_step : (c : Option Bool) → BuildsIn (next_of c (tree_at nodes a)) (next_step most c a) nodes
    BuildsIn-next_step (Some value) = record {
      grows = Grows-refl nodes;
      list = list;
      made = λ id e. subst (IsMade (tree_at nodes a) (gives a) nodes) (same_Some a id e) (IsMade-gives nodes a ha);
    }
    BuildsIn-next_step None = BuildsIn-added most nodes (node.Next a) list ha tt

    pub BuildsIn-next_id : BuildsIn (next_of (constant_tree (tree_at nodes a)) (tree_at nodes a)) (next_id most a) nodes
    BuildsIn-next_id =
        let here = BuildsIn-next_step (constant_at nodes a) in
        record {
          grows = here.grows;
          list = here.list;
          made = λ id e.
              let made = here.made id e in
              record {
                stands = made.stands;
                tree = made.tree ∙ ap (λ c. next_of c (tree_at nodes a)) (constant_at-tree nodes a list ha);
                again = λ longer fits grows.
                    ap (λ n. next_step most (constant_of n) a longer) (Grows-node_at nodes longer a.0 (Grows-trans nodes (next_step most (constant_at nodes a) a nodes).nodes longer here.grows grows) ha)
                    ∙ made.again longer fits grows;
              };
        }

  -- one step after another: the second builds on the first one's formula, in that list or a longer one
  module _ (f g : Tree) (step : Step) (more : FormulaId → Step) (nodes : List Node) (list : IsNodeList nodes) (first : BuildsIn f step nodes)
      (builds_more : (id : FormulaId) (ns : List Node) → IsNodeList ns → Grows nodes ns → IsNodeIn ns id → tree_at ns id ≡ f → BuildsIn g (more id) ns) where
    both_steps : Step
    both_steps ns = go_on (step ns) more

    after_some : (x : FormulaId) → (step nodes).made ≡ Some x → BuildsIn g both_steps nodes
    unfolding both_steps
    after_some x made_first =
        let m : IsMade f step (step nodes).nodes x = first.made x made_first in
        let second : BuildsIn g (more x) (step nodes).nodes = builds_more x (step nodes).nodes first.list first.grows m.stands m.tree in
        let is : go_on (step nodes) more ≡ more x (step nodes).nodes = go_on-Some (step nodes) more x made_first in
        record {
          grows = subst (λ b. Grows nodes b.nodes) (sym is) (Grows-trans nodes (step nodes).nodes (more x (step nodes).nodes).nodes first.grows second.grows);
          list = subst (λ b. IsNodeList b.nodes) (sym is) second.list;
          made = λ id e.
              let n : IsMade g (more x) (more x (step nodes).nodes).nodes id = second.made id (ap (λ b. b.made) (sym is) ∙ e) in
              subst (λ b. IsMade g both_steps b.nodes id) (sym is) (record {
                stands = n.stands;
                tree = n.tree;
                again = λ longer fits grows.
                    let again_first : step longer ≡ record { nodes = longer; made = Some x } =
                    m.again longer fits (Grows-trans (step nodes).nodes (more x (step nodes).nodes).nodes longer second.grows grows) in
                    ap (λ b. go_on b more) again_first ∙ n.again longer fits grows;
              });
        }

    after_none : (step nodes).made ≡ None → BuildsIn g both_steps nodes
    unfolding both_steps
    after_none made_none =
        let is : go_on (step nodes) more ≡ record { nodes = (step nodes).nodes; made = None } = go_on-None (step nodes) more made_none in
        record {
          grows = subst (λ b. Grows nodes b.nodes) (sym is) first.grows;
          list = subst (λ b. IsNodeList b.nodes) (sym is) first.list;
          made = λ id e. absurd (none-some id (ap (λ b. b.made) (sym is) ∙ e));
        }

    pub BuildsIn-go_on : BuildsIn g (λ ns. go_on (step ns) more) nodes
    unfolding both_steps
    BuildsIn-go_on = by (step nodes).made refl
      where
        by : (o : Option FormulaId) → (step nodes).made ≡ o → BuildsIn g (λ ns. go_on (step ns) more) nodes
        by (Some x) e = after_some x e
        by None e = after_none e

  Builds-constant : (value : Bool) → Builds (trees.constant value) ((nodes_to most).constant value)
  Builds-constant true nodes list = BuildsIn-added most nodes node.True list tt tt
  Builds-constant false nodes list = BuildsIn-added most nodes node.False list tt tt

  Builds-literal : (keep : Bool) (s : ℕ) → s < MAX_SIGNALS → Builds (trees.literal keep s) ((nodes_to most).literal keep s)
  Builds-literal true s small nodes list = BuildsIn-added most nodes (node.Signal s) list tt small
  Builds-literal false s small nodes list =
      BuildsIn-go_on (signal s) (negation (signal s)) (λ ns. added most ns (node.Signal s)) (λ id later. added most later (node.Not id)) nodes list
      (BuildsIn-added most nodes (node.Signal s) list tt small)
      (λ id ns fits grows stands tree. subst (λ t. BuildsIn (negation t) (λ later. added most later (node.Not id)) ns) tree (BuildsIn-added most ns (node.Not id) fits stands tt))

  Builds-next : (f : Tree) (step : Step) → Builds f step → Builds (trees.next f) ((nodes_to most).next step)
  Builds-next f step builds nodes list =
      BuildsIn-go_on f (trees.next f) step (next_id most) nodes list (builds nodes list)
      (λ id ns fits grows stands tree. subst (λ t. BuildsIn (next_of (constant_tree t) t) (next_id most id) ns) tree (BuildsIn-next_id id ns fits stands))

  Builds-join : (joint : Joint) (f g : Tree) (a b : Step) → Builds f a → Builds g b → Builds (trees.join joint f g) ((nodes_to most).join joint a b)
  Builds-join joint f g a b builds_a builds_b nodes list =
      BuildsIn-go_on f (joint_tree joint f g) a (λ x later. go_on (b later) (join_ids most joint x)) nodes list (builds_a nodes list)
      (λ x ns fits grows sx tx.
      BuildsIn-go_on g (joint_tree joint f g) b (join_ids most joint x) ns fits (builds_b ns fits)
      (λ y ms fits_ms grows_ms sy ty.
      subst (λ t. BuildsIn (joint_tree joint f t) (join_ids most joint x y) ms) ty
      (subst (λ t. BuildsIn (joint_tree joint t (tree_at ms y)) (join_ids most joint x y) ms) (tree_at-grown ns ms x grows_ms sx ∙ tx)
      (BuildsIn-join_ids joint x y ms fits_ms (Grows-stands ns ms x grows_ms sx) sy))))

  -- the table builds in lists what it builds of trees
  pub Builds-form_in : (keep : Bool) (f : Tree) → SignalsBelow MAX_SIGNALS f → Builds (table trees keep f) (form_in most keep f)
  Builds-form_in keep truth s = Builds-constant keep
  Builds-form_in keep falsity s = Builds-constant (not keep)
  Builds-form_in keep (signal n) s = Builds-literal keep n s
  Builds-form_in keep (negation a) s = Builds-form_in (not keep) a s
  Builds-form_in keep (next_time a) s = Builds-next (table trees keep a) (form_in most keep a) (Builds-form_in keep a s)
  Builds-form_in keep (finally a) s = Builds-join (facing_of keep Until) (trees.constant keep) (table trees keep a) ((nodes_to most).constant keep) (form_in most keep a) (Builds-constant keep) (Builds-form_in keep a s)
  Builds-form_in keep (globally a) s = Builds-join (facing_of keep Release) (trees.constant (not keep)) (table trees keep a) ((nodes_to most).constant (not keep)) (form_in most keep a) (Builds-constant (not keep)) (Builds-form_in keep a s)
  Builds-form_in keep (conjunction a b) s = Builds-join (facing_of keep And) (table trees keep a) (table trees keep b) (form_in most keep a) (form_in most keep b) (Builds-form_in keep a s.0) (Builds-form_in keep b s.1)
  Builds-form_in keep (disjunction a b) s = Builds-join (facing_of keep Or) (table trees keep a) (table trees keep b) (form_in most keep a) (form_in most keep b) (Builds-form_in keep a s.0) (Builds-form_in keep b s.1)
  Builds-form_in keep (implication a b) s = Builds-join (facing_of keep Or) (table trees (not keep) a) (table trees keep b) (form_in most (not keep) a) (form_in most keep b) (Builds-form_in (not keep) a s.0) (Builds-form_in keep b s.1)
  Builds-form_in keep (equivalence a b) s =
      Builds-join Or (joint_tree And (table trees true a) (table trees keep b)) (joint_tree And (table trees false a) (table trees (not keep) b))
      ((nodes_to most).join And (form_in most true a) (form_in most keep b)) ((nodes_to most).join And (form_in most false a) (form_in most (not keep) b))
      (Builds-join And (table trees true a) (table trees keep b) (form_in most true a) (form_in most keep b) (Builds-form_in true a s.0) (Builds-form_in keep b s.1))
      (Builds-join And (table trees false a) (table trees (not keep) b) (form_in most false a) (form_in most (not keep) b) (Builds-form_in false a s.0) (Builds-form_in (not keep) b s.1))
  Builds-form_in keep (until a b) s = Builds-join (facing_of keep Until) (table trees keep a) (table trees keep b) (form_in most keep a) (form_in most keep b) (Builds-form_in keep a s.0) (Builds-form_in keep b s.1)
  Builds-form_in keep (release a b) s = Builds-join (facing_of keep Release) (table trees keep a) (table trees keep b) (form_in most keep a) (form_in most keep b) (Builds-form_in keep a s.0) (Builds-form_in keep b s.1)
  Builds-form_in keep (weak_until a b) s =
      Builds-join (facing_of keep Release) (table trees keep b) (joint_tree (facing_of keep Or) (table trees keep a) (table trees keep b))
      (form_in most keep b) ((nodes_to most).join (facing_of keep Or) (form_in most keep a) (form_in most keep b)) (Builds-form_in keep b s.1)
      (Builds-join (facing_of keep Or) (table trees keep a) (table trees keep b) (form_in most keep a) (form_in most keep b) (Builds-form_in keep a s.0) (Builds-form_in keep b s.1))
