-- A form finds room in a list where each formula that is made on the way comes back from one of a longer list, and so does each that stands:
-- as many formulas stand in the longer one.
use Rattle.std.proofs.Common.{◌≡◌, ℕ, ◌+◌, ◌<◌, ◌≤◌, ◌⊎◌, inl, inr, Bool, true, false, cond, List, [], ◌∷◌, ◌++◌, length, Option, None, Some, refl, sym, ap, subst, ◌∙◌, arith}
use Rattle.std.specs.Prelude.{◌==◌, min, position}
use Rattle.std.specs.List.{position_or_len}
use Rattle.std.proofs.lemmas.Bool.{cases_lt, lt-ltb, true≢false}
use Rattle.std.proofs.lemmas.List.{length-append}
use Rattle.std.proofs.lemmas.List.Sums.{fails_before_first}
use Rattle.std.proofs.lemmas.Option.{none-some}
use Rattle.machine_model.proofs.Pigeonhole.{IsRepeated, pigeonhole}
use Rattle.ltl_formula.specs.declared.nodes.FormulaId.{FormulaId}
use Rattle.ltl_formula.specs.declared.nodes.Node.{Node}
use Rattle.ltl_formula.specs.declared.nodes.Node.TheVariants as node
use Rattle.ltl_formula.specs.declared.nodes.TheConstants.{MAX_NODES, MAX_SIGNALS}
use Rattle.ltl_formula.specs.Tree.{Tree}
use Rattle.ltl_formula.specs.Tree.Tree.{negation, next_time}
use Rattle.ltl_formula.specs.Nodes.{IsNodeList, PartsBelow, SignalBelow, IsNodeIn, node_at, tree_at, tree_of, trees_of}
use Rattle.ltl_formula.specs.Added.{Built, added, built_at, node_eq}
use Rattle.ltl_formula.proofs.NodeEquality.{node_eq-self, node_from_tree, same_id_of}
use Rattle.ltl_formula.proofs.Trees.{tree_at-append, tree_at-grown, tree_at-last, tree_at-node}
use Rattle.ltl_formula.proofs.Lists.{IsNodeList-append, one_id_per_formula, room_below}
use Rattle.ltl_normal.specs.declared.simplify.Joint.{Joint}
use Rattle.ltl_normal.specs.declared.simplify.Joint.TheVariants.{And, Or, Until, Release}
use Rattle.ltl_normal.specs.declared.simplify.Outcome.{Outcome}
use Rattle.ltl_normal.specs.declared.simplify.Outcome.TheVariants.{First, Second, Whole}
use Rattle.ltl_normal.specs.Simplify.{outcome_of}
use Rattle.ltl_normal.specs.NormalTrees.{chosen, constant_tree, joint_tree, next_of, tree_eq, whole_tree}
use Rattle.ltl_normal.specs.NormalNodes.{Step, chosen_step, constant_at, go_on, join_ids, next_id, next_step, whole_node}
use Rattle.ltl_normal.proofs.Building.{constant_at-tree, go_on-Some, parts-whole_node, same-tree_eq, signal-whole_node}
use Rattle.taken_laws.proofs.Forms.{Form, HasSignalsBelow, of_constant, of_join, of_literal, of_next, tree}
use Rattle.taken_laws.proofs.Made.{OfEach, builds, step}

-- the first place of a test that there is none for
no_place : (p : Node → Bool) (xs : List Node) → position p xs ≡ None → (k : ℕ) → k < length xs → p (node_at xs k) ≡ false
no_place p xs none k h =
    elim (cases_lt (position_or_len p xs) (length xs)) [
      | inl there ↦ absurd (none-some (position_or_len p xs) (sym none ∙ ap (λ b. cond b (Some (position_or_len p xs)) None) (lt-ltb (position_or_len p xs) (length xs) there)))
      | inr past ↦ fails_before_first p xs k node.False (omega arith)
    ]

tree_of_whole : (nodes : List Node) (joint : Joint) (a b : FormulaId) → tree_of (trees_of nodes) (whole_node joint a b) ≡ whole_tree joint (tree_at nodes a) (tree_at nodes b)
tree_of_whole nodes And a b = refl
tree_of_whole nodes Or a b = refl
tree_of_whole nodes Until a b = refl
tree_of_whole nodes Release a b = refl

module _ (end : List Node) (list_end : IsNodeList end) (back : Tree → Tree) where
  -- the formula comes back from one that stands in the longer list
  pub record Comes (f : Tree) : Type 0 where
    pub id : FormulaId
    pub stands : IsNodeIn end id
    pub tree_is : back (tree_at end id) ≡ f

  -- a list of formulas each of which does
  pub record Follows (nodes : List Node) : Type 0 where
    pub list : IsNodeList nodes
    pub all : (id : FormulaId) → IsNodeIn nodes id → Comes (tree_at nodes id)

  -- ---- as many formulas stand in the longer list

  module _ (nodes : List Node) (follows : Follows nodes) (f : Tree) (comes : Comes f) (new : (id : FormulaId) → IsNodeIn nodes id → tree_at nodes id ≡ f → ⊥) where
    number : (k : ℕ) → (k < length nodes) ⊎ (length nodes ≤ k) → ℕ
    number k (inl here) = (follows.all (record { 0 = k }) here).id.0
    number k (inr past) = comes.id.0

    number_below : (k : ℕ) (c : (k < length nodes) ⊎ (length nodes ≤ k)) → number k c < length end
    unfolding number
    number_below k (inl here) = (follows.all (record { 0 = k }) here).stands
    number_below k (inr past) = comes.stands

    clash : (i j : ℕ) (c : (i < length nodes) ⊎ (length nodes ≤ i)) (d : (j < length nodes) ⊎ (length nodes ≤ j)) → i < j → j ≤ length nodes → number i c ≡ number j d → ⊥
    unfolding number
    clash i j (inl here) (inl there) less most same =
        let a = follows.all (record { 0 = i }) here in
        let b = follows.all (record { 0 = j }) there in
        let trees : tree_at nodes (record { 0 = i }) ≡ tree_at nodes (record { 0 = j }) = sym a.tree_is ∙ ap (λ id. back (tree_at end id)) (same_id_of a.id b.id same) ∙ b.tree_is in
        let one : ◌≡◌ {A = FormulaId} (record { 0 = i }) (record { 0 = j }) = one_id_per_formula nodes (record { 0 = i }) (record { 0 = j }) follows.list here there trees in
        let equal : i ≡ j = ap (λ (id : FormulaId). id.0) one in
        omega arith
    clash i j (inl here) (inr past) less most same =
        let a = follows.all (record { 0 = i }) here in
        new (record { 0 = i }) here (sym a.tree_is ∙ ap (λ id. back (tree_at end id)) (same_id_of a.id comes.id same) ∙ comes.tree_is)
    clash i j (inr past) d less most same = omega arith

    pub one_more : length nodes < length end
    one_more = elim (cases_lt (length nodes) (length end)) [
      | inl fewer ↦ fewer
      | inr many ↦
          let twice : IsRepeated (λ k. number k (cases_lt k (length nodes))) (length end) =
          pigeonhole (length end) (λ k. number k (cases_lt k (length nodes))) (λ k h. number_below k (cases_lt k (length nodes))) in
          let within : twice.second ≤ length end = twice.within in
          absurd (clash twice.first twice.second (cases_lt twice.first (length nodes)) (cases_lt twice.second (length nodes)) twice.before (omega arith) twice.same)
    ]

  module _ (most : ℕ) (few : length end ≤ most) where
    -- a step that finds room, and what the list is then
    pub record FindsRoom (built : Built) : Type 0 where
      pub id : FormulaId
      pub made : built.made ≡ Some id
      pub follows : Follows built.nodes

    -- ---- a node

    module _ (nodes : List Node) (follows : Follows nodes) (new : Node) (parts : PartsBelow (length nodes) new) (signal : SignalBelow MAX_SIGNALS new)
        (comes : Comes (tree_of (trees_of nodes) new)) where
      is_new : position (node_eq new) nodes ≡ None → (id : FormulaId) → IsNodeIn nodes id → tree_at nodes id ≡ tree_of (trees_of nodes) new → ⊥
      is_new none id stands same =
          let here : tree_of (trees_of nodes) (node_at nodes id.0) ≡ tree_of (trees_of nodes) new =
          sym (tree_at-node nodes id.0 stands (follows.list.parts_first id.0)) ∙ same in
          let is : node_at nodes id.0 ≡ new =
          node_from_tree (trees_of nodes) id.0 (length nodes) (λ a b ha hb trees. one_id_per_formula nodes a b follows.list (omega arith) hb trees)
          (node_at nodes id.0) new (follows.list.parts_first id.0) parts here in
          true≢false (sym (node_eq-self new) ∙ ap (node_eq new) (sym is) ∙ no_place (node_eq new) nodes none id.0 stands)

      pushed : position (node_eq new) nodes ≡ None → length nodes < min most MAX_NODES → FindsRoom (record { nodes = nodes ++ new ∷ []; made = Some (record { 0 = length nodes }) })
      pushed none room = record {
        id = record { 0 = length nodes };
        made = refl;
        follows = record {
          list = IsNodeList-append nodes new follows.list parts signal none (room_below most (length nodes) room);
          all = λ id stands.
              elim (cases_lt id.0 (length nodes)) [
                | inl before ↦ subst Comes (sym (tree_at-append nodes (new ∷ []) id before)) (follows.all id before)
                | inr past ↦
                    let long : length (nodes ++ new ∷ []) ≡ length nodes + 1 = length-append nodes (new ∷ []) in
                    let at : length nodes ≡ id.0 = omega (arith, stands, long, past) in
                    subst Comes (sym (tree_at-last nodes new) ∙ ap (tree_at (nodes ++ new ∷ [])) (same_id_of (record { 0 = length nodes }) id at)) comes
              ];
        };
      }

      has_room : position (node_eq new) nodes ≡ None → length nodes < min most MAX_NODES
      has_room none =
          let less : length nodes < length end = one_more nodes follows (tree_of (trees_of nodes) new) comes (is_new none) in
          let all : length end ≤ MAX_NODES = list_end.most in
          omega (arith, few)

      pub node_fits : FindsRoom (added most nodes new)
      node_fits = by (position (node_eq new) nodes) refl
        where
          by : (o : Option ℕ) → position (node_eq new) nodes ≡ o → FindsRoom (built_at most o nodes new)
          by (Some i) found = record { id = record { 0 = i }; made = refl; follows = follows }
          by None none =
              subst (λ (b : Bool). FindsRoom (cond b (let x : Built = record { nodes = nodes ++ new ∷ []; made = Some (record { 0 = length nodes }) } in x) (let x : Built = record { nodes = nodes; made = None } in x)))
              (sym (lt-ltb (length nodes) (min most MAX_NODES) (has_room none))) (pushed none (has_room none))

    -- ---- steps

    gives_room : (id : FormulaId) (nodes : List Node) → Follows nodes → FindsRoom (record { nodes = nodes; made = Some id })
    gives_room id nodes follows = record { id = id; made = refl; follows = follows }

    go_on_fits : (built : Built) (next : FormulaId → Step) → FindsRoom built → ((id : FormulaId) → built.made ≡ Some id → Follows built.nodes → FindsRoom (next id built.nodes))
        → FindsRoom (go_on built next)
    go_on_fits built next first then = subst FindsRoom (sym (go_on-Some built next first.id first.made)) (then first.id first.made first.follows)

    next_fits : (a : FormulaId) (f : Tree) (nodes : List Node) → Follows nodes → IsNodeIn nodes a → tree_at nodes a ≡ f → Comes (next_of (constant_tree f) f) → (o : Option Bool)
        → constant_at nodes a ≡ o → FindsRoom (next_step most o a nodes)
    next_fits a f nodes follows stands is comes (Some value) e = gives_room a nodes follows
    next_fits a f nodes follows stands is comes None e =
        let none : constant_tree f ≡ None = ap constant_tree (sym is) ∙ sym (constant_at-tree nodes a follows.list stands) ∙ e in
        let whole : Comes (next_time f) = subst (λ (o : Option Bool). Comes (next_of o f)) none comes in
        node_fits nodes follows (node.Next a) stands tt (subst (λ (t : Tree). Comes (next_time t)) (sym is) whole)

    module _ (joint : Joint) (a b : FormulaId) (f g : Tree) (nodes : List Node) (follows : Follows nodes) (stands_a : IsNodeIn nodes a) (stands_b : IsNodeIn nodes b)
        (is_a : tree_at nodes a ≡ f) (is_b : tree_at nodes b ≡ g) (comes : Comes (joint_tree joint f g)) where
      outcome_is : outcome_of joint (constant_at nodes a) (constant_at nodes b) (a.0 == b.0) ≡ outcome_of joint (constant_tree f) (constant_tree g) (tree_eq f g)
      outcome_is =
          let first : constant_at nodes a ≡ constant_tree f = constant_at-tree nodes a follows.list stands_a ∙ ap constant_tree is_a in
          let second : constant_at nodes b ≡ constant_tree g = constant_at-tree nodes b follows.list stands_b ∙ ap constant_tree is_b in
          let same : (a.0 == b.0) ≡ tree_eq f g = same-tree_eq nodes a b follows.list stands_a stands_b ∙ (λ i. tree_eq (is_a i) (is_b i)) in
          λ i. outcome_of joint (first i) (second i) (same i)

      chosen_fits : (o : Outcome) → outcome_of joint (constant_at nodes a) (constant_at nodes b) (a.0 == b.0) ≡ o → FindsRoom (chosen_step most o a b (whole_node joint a b) nodes)
      chosen_fits First e = gives_room a nodes follows
      chosen_fits Second e = gives_room b nodes follows
      chosen_fits Whole e =
          let whole : Comes (whole_tree joint f g) = subst (λ (o : Outcome). Comes (chosen o f g (whole_tree joint f g))) (sym outcome_is ∙ e) comes in
          let parts : whole_tree joint (tree_at nodes a) (tree_at nodes b) ≡ whole_tree joint f g = λ i. whole_tree joint (is_a i) (is_b i) in
          let there : Comes (tree_of (trees_of nodes) (whole_node joint a b)) = subst Comes (sym (tree_of_whole nodes joint a b ∙ parts)) whole in
          node_fits nodes follows (whole_node joint a b) (parts-whole_node joint a b (length nodes) stands_a stands_b) (signal-whole_node joint a b MAX_SIGNALS) there

      pub join_fits : FindsRoom (join_ids most joint a b nodes)
      join_fits = chosen_fits (outcome_of joint (constant_at nodes a) (constant_at nodes b) (a.0 == b.0)) refl

    -- ---- forms

    pub form_fits : (f : Form) → HasSignalsBelow MAX_SIGNALS f → OfEach Comes f → (nodes : List Node) → Follows nodes → FindsRoom (step most f nodes)
    form_fits (of_constant true) below each nodes follows = node_fits nodes follows node.True tt tt each
    form_fits (of_constant false) below each nodes follows = node_fits nodes follows node.False tt tt each
    form_fits (of_literal true s) below each nodes follows = node_fits nodes follows (node.Signal s) tt below each.0
    form_fits (of_literal false s) below each nodes follows =
        go_on_fits (added most nodes (node.Signal s)) (λ id later. added most later (node.Not id)) (node_fits nodes follows (node.Signal s) tt below each.0)
        (λ id made then.
        let m = (builds most (of_literal true s) below nodes follows.list).made id made in
        node_fits (added most nodes (node.Signal s)).nodes then (node.Not id) m.stands tt (subst (λ (t : Tree). Comes (negation t)) (sym m.tree) each.1))
    form_fits (of_next a) below each nodes follows =
        go_on_fits (step most a nodes) (next_id most) (form_fits a below each.0 nodes follows)
        (λ id made then.
        let m = (builds most a below nodes follows.list).made id made in
        next_fits id (tree a) (step most a nodes).nodes then m.stands m.tree each.1 (constant_at (step most a nodes).nodes id) refl)
    form_fits (of_join joint a b) below each nodes follows =
        go_on_fits (step most a nodes) (λ x later. go_on (step most b later) (join_ids most joint x)) (form_fits a below.0 each.0 nodes follows)
        (λ x made_a then.
        let one : List Node = (step most a nodes).nodes in
        let m = (builds most a below.0 nodes follows.list).made x made_a in
        go_on_fits (step most b one) (join_ids most joint x) (form_fits b below.1 each.1 one then)
        (λ y made_b last.
        let more = builds most b below.1 one then.list in
        let n = more.made y made_b in
        let stays = tree_at-grown one (step most b one).nodes x more.grows m.stands in
        join_fits joint x y (tree a) (tree b) (step most b one).nodes last
        (let grown = ap length more.grows.appended ∙ length-append one more.grows.more in omega (arith, m.stands, grown)) n.stands (stays ∙ m.tree) n.tree each.2))
