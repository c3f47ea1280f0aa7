-- A formula that is put into a list stands there; where it stood, nothing is added.
use Rattle.std.proofs.Common.{◌≡◌, ℕ, zero, suc, ◌<◌, List, length, refl, sym, ap, subst, ◌∙◌, arith}
use Rattle.ltl_formula.specs.declared.nodes.FormulaId.{FormulaId}
use Rattle.ltl_formula.specs.declared.nodes.Node.{Node}
use Rattle.ltl_formula.specs.declared.nodes.Node.TheVariants as node
use Rattle.ltl_formula.specs.declared.nodes.TheConstants.{MAX_SIGNALS}
use Rattle.ltl_formula.specs.Nodes.{IsNodeList, PartsBelow, IsNodeIn, node_at, tree_at, tree_of, trees_of}
use Rattle.ltl_formula.specs.Tree.{Tree, SignalsBelow}
use Rattle.ltl_formula.specs.Tree.Tree.{truth, falsity, signal, negation, next_time, finally, globally, conjunction, disjunction, implication, equivalence, until, release, weak_until}
use Rattle.ltl_formula.proofs.Trees.{tree_at-node}
use Rattle.tlsf_values.specs.declared.work.Work.{Work}
use Rattle.tlsf_values.specs.Outcomes.{Outcome, gives, go_on, made}
use Rattle.tlsf_expand.specs.Standing.{StandsAs}
use Rattle.tlsf_expand.proofs.Kept.{IsGood, keeps_go_on}
use Rattle.tlsf_expand.proofs.Filling.{Fills, FillsOver, FillsOverBoth, fills_and, fills_equiv, fills_finally, fills_globally, fills_implies, fills_leaf, fills_next, fills_not, fills_or, fills_release, fills_true, fills_until, fills_weakly, stands_later}
use Rattle.unrealizable_core.specs.Put.{put, put_over, put_over_both}
use Rattle.unrealizable_core.proofs.MadeAgain.{made_again}

-- ---- a whole formula

module _ {top : ℕ} where
  fills_one : (c : Tree → Tree) (whole : FormulaId → Node) (a : Tree)
      → FillsOver top whole c
      → (old : List Node) (part : Outcome FormulaId) → Fills top old (λ id nodes. StandsAs nodes a id) part → Fills top old (λ id nodes. StandsAs nodes (c a) id) (put_over whole part)
  fills_one c whole a makes old part h = keeps_go_on _ _ h (λ i work good grows at. makes work a i good at)

  fills_two : (c : Tree → Tree → Tree) (whole : FormulaId → FormulaId → Node) (a b : Tree)
      → FillsOverBoth top whole c
      → (old : List Node) (left : Outcome FormulaId) (right : Work → Outcome FormulaId) → Fills top old (λ id nodes. StandsAs nodes a id) left
      → ((work : Work) → IsGood top work.formulas → Fills top work.formulas (λ id nodes. StandsAs nodes b id) (right work))
      → Fills top old (λ id nodes. StandsAs nodes (c a b) id) (put_over_both whole left right)
  fills_two c whole a b makes old left right l r =
      keeps_go_on _ _ l (λ i work good grows at_left.
      keeps_go_on _ _ (r work good) (λ j later good_later more at_right.
      makes later a b i j good_later (stands_later more at_left) at_right))

  pub fills_put : (t : Tree) → SignalsBelow MAX_SIGNALS t → SignalsBelow top t → (work : Work) → IsGood top work.formulas → Fills top work.formulas (λ id nodes. StandsAs nodes t id) (put t work)
  fills_put truth s b work good = fills_true work good
  fills_put falsity s b work good = fills_leaf node.False falsity (λ T. refl) tt tt work good tt
  fills_put (signal k) s b work good = fills_leaf (node.Signal k) (signal k) (λ T. refl) s b work good tt
  fills_put (negation a) s b work good = fills_one negation node.Not a fills_not work.formulas (put a work) (fills_put a s b work good)
  fills_put (next_time a) s b work good = fills_one next_time node.Next a fills_next work.formulas (put a work) (fills_put a s b work good)
  fills_put (finally a) s b work good = fills_one finally node.Finally a fills_finally work.formulas (put a work) (fills_put a s b work good)
  fills_put (globally a) s b work good = fills_one globally node.Globally a fills_globally work.formulas (put a work) (fills_put a s b work good)
  fills_put (conjunction x y) s b work good = fills_two conjunction node.And x y fills_and work.formulas (put x work) (put y) (fills_put x s.0 b.0 work good) (λ later g. fills_put y s.1 b.1 later g)
  fills_put (disjunction x y) s b work good = fills_two disjunction node.Or x y fills_or work.formulas (put x work) (put y) (fills_put x s.0 b.0 work good) (λ later g. fills_put y s.1 b.1 later g)
  fills_put (implication x y) s b work good = fills_two implication node.Implies x y fills_implies work.formulas (put x work) (put y) (fills_put x s.0 b.0 work good) (λ later g. fills_put y s.1 b.1 later g)
  fills_put (equivalence x y) s b work good = fills_two equivalence node.Equiv x y fills_equiv work.formulas (put x work) (put y) (fills_put x s.0 b.0 work good) (λ later g. fills_put y s.1 b.1 later g)
  fills_put (until x y) s b work good = fills_two until node.Until x y fills_until work.formulas (put x work) (put y) (fills_put x s.0 b.0 work good) (λ later g. fills_put y s.1 b.1 later g)
  fills_put (release x y) s b work good = fills_two release node.Release x y fills_release work.formulas (put x work) (put y) (fills_put x s.0 b.0 work good) (λ later g. fills_put y s.1 b.1 later g)
  fills_put (weak_until x y) s b work good = fills_two weak_until node.WeakUntil x y fills_weakly work.formulas (put x work) (put y) (fills_put x s.0 b.0 work good) (λ later g. fills_put y s.1 b.1 later g)

-- ---- a formula that stands

module _ (work : Work) (list : IsNodeList work.formulas) where
  made_at : (x : Node) (id : FormulaId) → IsNodeIn work.formulas id → node_at work.formulas id.0 ≡ x → made 0 x work ≡ gives id work
  made_at x id there is = ap (λ y. made 0 y work) (sym is) ∙ made_again work id list there

  below : (x : Node) (id : FormulaId) → node_at work.formulas id.0 ≡ x → PartsBelow id.0 x
  below x id is = subst (PartsBelow id.0) is (list.parts_first id.0)

  put_one : (whole : FormulaId → Node) (a id : FormulaId) → IsNodeIn work.formulas id → node_at work.formulas id.0 ≡ whole a → put (tree_at work.formulas a) work ≡ gives a work
      → put_over whole (put (tree_at work.formulas a) work) ≡ gives id work
  put_one whole a id there is part = ap (λ o. put_over whole o) part ∙ made_at (whole a) id there is

  put_two : (whole : FormulaId → FormulaId → Node) (a b id : FormulaId) → IsNodeIn work.formulas id → node_at work.formulas id.0 ≡ whole a b → put (tree_at work.formulas a) work ≡ gives a work
      → put (tree_at work.formulas b) work ≡ gives b work → put_over_both whole (put (tree_at work.formulas a) work) (put (tree_at work.formulas b)) ≡ gives id work
  put_two whole a b id there is left right =
      ap (λ o. put_over_both whole o (put (tree_at work.formulas b))) left ∙ ap (λ o. go_on o (λ y w. made 0 (whole a y) w)) right ∙ made_at (whole a b) id there is

  -- by its node, where its parts are as said
  put_node : (x : Node) (id : FormulaId) → IsNodeIn work.formulas id → node_at work.formulas id.0 ≡ x
      → ((p : FormulaId) → p.0 < id.0 → put (tree_at work.formulas p) work ≡ gives p work) → put (tree_of (trees_of work.formulas) x) work ≡ gives id work
  put_node node.True id there is parts = made_at node.True id there is
  put_node node.False id there is parts = made_at node.False id there is
  put_node (node.Signal k) id there is parts = made_at (node.Signal k) id there is
  put_node (node.Not a) id there is parts = put_one node.Not a id there is (parts a (below (node.Not a) id is))
  put_node (node.Next a) id there is parts = put_one node.Next a id there is (parts a (below (node.Next a) id is))
  put_node (node.Finally a) id there is parts = put_one node.Finally a id there is (parts a (below (node.Finally a) id is))
  put_node (node.Globally a) id there is parts = put_one node.Globally a id there is (parts a (below (node.Globally a) id is))
  put_node (node.And a b) id there is parts = let h = below (node.And a b) id is in put_two node.And a b id there is (parts a h.0) (parts b h.1)
  put_node (node.Or a b) id there is parts = let h = below (node.Or a b) id is in put_two node.Or a b id there is (parts a h.0) (parts b h.1)
  put_node (node.Implies a b) id there is parts = let h = below (node.Implies a b) id is in put_two node.Implies a b id there is (parts a h.0) (parts b h.1)
  put_node (node.Equiv a b) id there is parts = let h = below (node.Equiv a b) id is in put_two node.Equiv a b id there is (parts a h.0) (parts b h.1)
  put_node (node.Until a b) id there is parts = let h = below (node.Until a b) id is in put_two node.Until a b id there is (parts a h.0) (parts b h.1)
  put_node (node.Release a b) id there is parts = let h = below (node.Release a b) id is in put_two node.Release a b id there is (parts a h.0) (parts b h.1)
  put_node (node.WeakUntil a b) id there is parts = let h = below (node.WeakUntil a b) id is in put_two node.WeakUntil a b id there is (parts a h.0) (parts b h.1)

  put_back : (fuel : ℕ) (id : FormulaId) → id.0 < fuel → IsNodeIn work.formulas id → put (tree_at work.formulas id) work ≡ gives id work
  put_back zero id less there = absurd (omega arith)
  put_back (suc fuel) id less there =
      let h : id.0 < length work.formulas = there in
      let tree : tree_at work.formulas id ≡ tree_of (trees_of work.formulas) (node_at work.formulas id.0) = tree_at-node work.formulas id.0 h (list.parts_first id.0) in
      ap (λ t. put t work) tree ∙ put_node (node_at work.formulas id.0) id there refl (λ p lower. put_back fuel p (omega arith) (let l : p.0 < id.0 = lower in omega arith))

  pub put_again : (t : Tree) (id : FormulaId) → StandsAs work.formulas t id → put t work ≡ gives id work
  put_again t id h = ap (λ t. put t work) (sym h.tree) ∙ put_back (suc id.0) id (omega arith) h.stands
