-- What comes of building in a list of nodes: the list has grown and is still one, with no further signals; or it is full.
use Rattle.std.proofs.Common.{◌≡◌, ℕ, ◌<◌, ◌≤◌, true, List, length, refl, sym, ap, ◌∙◌, arith}
use Rattle.std.specs.Prelude.{◌&&◌}
use Rattle.std.proofs.lemmas.Bool.{and_from, false≢true, lt-ltb}
use Rattle.ltl_formula.specs.declared.nodes.FormulaId.{FormulaId}
use Rattle.ltl_formula.specs.declared.nodes.Node.{Node}
use Rattle.ltl_formula.specs.declared.nodes.Node.TheVariants as node
use Rattle.ltl_formula.specs.declared.nodes.TheConstants.{MAX_SIGNALS}
use Rattle.ltl_formula.specs.Nodes.{Grows, PartsBelow, SignalBelow, pick, tree_at, tree_of, trees_of}
use Rattle.ltl_formula.specs.Tree.{Tree}
use Rattle.ltl_formula.specs.Tree.Tree.{truth, negation, next_time, finally, globally, conjunction, disjunction, implication, equivalence, until, release, weak_until}
use Rattle.ltl_formula.proofs.Lists.{Grows-stands}
use Rattle.ltl_formula.proofs.Trees.{tree_at-grown}
use Rattle.spec_faults.specs.declared.code.SpecCode.{SpecCode}
use Rattle.spec_faults.specs.declared.code.SpecCode.TheVariants.{TooManyNodes}
use Rattle.tlsf_values.specs.declared.work.Work.{Work}
use Rattle.tlsf_values.specs.Outcomes.{Outcome, fails, stands, may_stand, made}
use Rattle.tlsf_expand.specs.Standing.{StandsAs}
use Rattle.tlsf_expand.proofs.Kept.{IsGood, Gives, IsKept, Keeps, Makes, gives_such, gives_made, keeps_map, refused_so, refuses}

-- refused for want of room alone
pub record IsFull (code : SpecCode) (place : ℕ) : Type 0 where
  pub code_is : code ≡ TooManyNodes
  pub place_is : place ≡ 0

abbrev pub Fills : {A : Type 0} → ℕ → List Node → (A → List Node → Type 0) → Outcome A → Type 0
Fills top old Q o = Gives IsFull (IsKept top old Q) o

pub keeps_filled : {A : Type 0} {top : ℕ} {old : List Node} {Q : A → List Node → Type 0} {o : Outcome A} → Fills top old Q o → Keeps top old Q o
keeps_filled (gives_such a work k) = gives_such a work k
keeps_filled (refused_so code place r) = refuses code place

pub is_full : {A : Type 0} {Q : A → List Node → Type 0} (o : Outcome A) (code : SpecCode) (place : ℕ) → Gives IsFull Q o → o ≡ fails code place → o ≡ fails TooManyNodes 0
is_full _ code place (gives_such a work q) e = absurd cc
is_full _ code place (refused_so c p r) e = ap (λ c. fails c p) r.code_is ∙ ap (fails TooManyNodes) r.place_is

-- ---- a node over parts that stand

stands_true : (nodes : List Node) (k : ℕ) (id : FormulaId) → k ≤ length nodes → id.0 < k → stands nodes id ≡ true
stands_true nodes k id le h = lt-ltb id.0 (length nodes) (omega arith)

both_true : (nodes : List Node) (k : ℕ) (a b : FormulaId) → k ≤ length nodes → (a.0 < k) × (b.0 < k) → (stands nodes a && stands nodes b) ≡ true
both_true nodes k a b le h = and_from (stands nodes a) (stands nodes b) (stands_true nodes k a le h.0) (stands_true nodes k b le h.1)

pub may_stand_true : (nodes : List Node) (k : ℕ) (x : Node) → k ≤ length nodes → PartsBelow k x → SignalBelow MAX_SIGNALS x → may_stand nodes x ≡ true
may_stand_true nodes k node.True le p s = refl
may_stand_true nodes k node.False le p s = refl
may_stand_true nodes k (node.Signal i) le p s = lt-ltb i MAX_SIGNALS s
may_stand_true nodes k (node.Not a) le p s = stands_true nodes k a le p
may_stand_true nodes k (node.Next a) le p s = stands_true nodes k a le p
may_stand_true nodes k (node.Finally a) le p s = stands_true nodes k a le p
may_stand_true nodes k (node.Globally a) le p s = stands_true nodes k a le p
may_stand_true nodes k (node.And a b) le p s = both_true nodes k a b le p
may_stand_true nodes k (node.Or a b) le p s = both_true nodes k a b le p
may_stand_true nodes k (node.Implies a b) le p s = both_true nodes k a b le p
may_stand_true nodes k (node.Equiv a b) le p s = both_true nodes k a b le p
may_stand_true nodes k (node.Until a b) le p s = both_true nodes k a b le p
may_stand_true nodes k (node.Release a b) le p s = both_true nodes k a b le p
may_stand_true nodes k (node.WeakUntil a b) le p s = both_true nodes k a b le p

-- ---- the tree of a node over parts

pub stands_later : {old new : List Node} {t : Tree} {id : FormulaId} → Grows old new → StandsAs old t id → StandsAs new t id
stands_later {old = old} {new = new} {id = id} grows h = record { stands = Grows-stands old new id grows h.stands; tree = tree_at-grown old new id grows h.stands ∙ h.tree }

-- a node over one part makes this formula of its formula
abbrev pub FillsOver : ℕ → (FormulaId → Node) → (Tree → Tree) → Type 0
FillsOver top whole c =
    (work : Work) (a : Tree) (i : FormulaId) → IsGood top work.formulas → StandsAs work.formulas a i → Fills top work.formulas (λ id nodes. StandsAs nodes (c a) id) (made 0 (whole i) work)

-- a node over two parts makes this formula of theirs
abbrev pub FillsOverBoth : ℕ → (FormulaId → FormulaId → Node) → (Tree → Tree → Tree) → Type 0
FillsOverBoth top whole c =
    (work : Work) (a b : Tree) (i j : FormulaId) → IsGood top work.formulas → StandsAs work.formulas a i → StandsAs work.formulas b j → Fills top work.formulas (λ id nodes. StandsAs nodes (c a b) id) (made 0 (whole i j) work)

module _ {top : ℕ} where
  fills_made : (x : Node) (work : Work) → IsGood top work.formulas → PartsBelow (length work.formulas) x → SignalBelow MAX_SIGNALS x → SignalBelow top x
      → Fills top work.formulas (Makes x) (made 0 x work)
  fills_made x work good parts signal below =
      let may = may_stand_true work.formulas (length work.formulas) x (omega arith) parts signal in
      gives_made 0 x work good below (λ not_so. absurd (false≢true (sym not_so ∙ may))) (record { code_is = refl; place_is = refl })

  pub fills_leaf : (x : Node) (t : Tree) → ((T : List Tree) → tree_of T x ≡ t) → SignalBelow MAX_SIGNALS x → SignalBelow top x
      → (work : Work) → IsGood top work.formulas → PartsBelow (length work.formulas) x → Fills top work.formulas (λ id nodes. StandsAs nodes t id) (made 0 x work)
  fills_leaf x t means small below work good parts =
      keeps_map _ (λ id nodes grows m. record { stands = m.stands; tree = m.tree ∙ means (trees_of nodes) }) (fills_made x work good parts small below)

  fills_over : (whole : FormulaId → Node) (c : Tree → Tree) → ((T : List Tree) (i : FormulaId) → tree_of T (whole i) ≡ c (pick T i))
      → (work : Work) (a : Tree) (i : FormulaId) → IsGood top work.formulas → StandsAs work.formulas a i
      → PartsBelow (length work.formulas) (whole i) → SignalBelow MAX_SIGNALS (whole i) → SignalBelow top (whole i)
      → Fills top work.formulas (λ id nodes. StandsAs nodes (c a) id) (made 0 (whole i) work)
  fills_over whole c means work a i good part parts small below =
      keeps_map _
      (λ id nodes grows m. let there : StandsAs nodes a i = stands_later grows part in record { stands = m.stands; tree = m.tree ∙ means (trees_of nodes) i ∙ ap c there.tree })
      (fills_made (whole i) work good parts small below)

  fills_over_both : (whole : FormulaId → FormulaId → Node) (c : Tree → Tree → Tree) → ((T : List Tree) (i j : FormulaId) → tree_of T (whole i j) ≡ c (pick T i) (pick T j))
      → (work : Work) (a b : Tree) (i j : FormulaId) → IsGood top work.formulas → StandsAs work.formulas a i → StandsAs work.formulas b j
      → PartsBelow (length work.formulas) (whole i j) → SignalBelow MAX_SIGNALS (whole i j) → SignalBelow top (whole i j)
      → Fills top work.formulas (λ id nodes. StandsAs nodes (c a b) id) (made 0 (whole i j) work)
  fills_over_both whole c means work a b i j good left right parts small below =
      keeps_map _
      (λ id nodes grows m.
      let l : StandsAs nodes a i = stands_later grows left in
      let r : StandsAs nodes b j = stands_later grows right in
      record { stands = m.stands; tree = m.tree ∙ means (trees_of nodes) i j ∙ ap (λ t. c t (tree_at nodes j)) l.tree ∙ ap (c a) r.tree })
      (fills_made (whole i j) work good parts small below)

  -- the operators
  pub fills_true : (work : Work) → IsGood top work.formulas → Fills top work.formulas (λ id nodes. StandsAs nodes truth id) (made 0 node.True work)
  fills_true work good = fills_leaf node.True truth (λ T. refl) tt tt work good tt

  pub fills_not : FillsOver top node.Not negation
  fills_not work a i good h = fills_over node.Not negation (λ T i. refl) work a i good h h.stands tt tt

  pub fills_next : FillsOver top node.Next next_time
  fills_next work a i good h = fills_over node.Next next_time (λ T i. refl) work a i good h h.stands tt tt

  pub fills_finally : FillsOver top node.Finally finally
  fills_finally work a i good h = fills_over node.Finally finally (λ T i. refl) work a i good h h.stands tt tt

  pub fills_globally : FillsOver top node.Globally globally
  fills_globally work a i good h = fills_over node.Globally globally (λ T i. refl) work a i good h h.stands tt tt

  pub fills_and : FillsOverBoth top node.And conjunction
  fills_and work a b i j good l r = fills_over_both node.And conjunction (λ T i j. refl) work a b i j good l r (l.stands, r.stands) tt tt

  pub fills_or : FillsOverBoth top node.Or disjunction
  fills_or work a b i j good l r = fills_over_both node.Or disjunction (λ T i j. refl) work a b i j good l r (l.stands, r.stands) tt tt

  pub fills_implies : FillsOverBoth top node.Implies implication
  fills_implies work a b i j good l r = fills_over_both node.Implies implication (λ T i j. refl) work a b i j good l r (l.stands, r.stands) tt tt

  pub fills_equiv : FillsOverBoth top node.Equiv equivalence
  fills_equiv work a b i j good l r = fills_over_both node.Equiv equivalence (λ T i j. refl) work a b i j good l r (l.stands, r.stands) tt tt

  pub fills_until : FillsOverBoth top node.Until until
  fills_until work a b i j good l r = fills_over_both node.Until until (λ T i j. refl) work a b i j good l r (l.stands, r.stands) tt tt

  pub fills_release : FillsOverBoth top node.Release release
  fills_release work a b i j good l r = fills_over_both node.Release release (λ T i j. refl) work a b i j good l r (l.stands, r.stands) tt tt

  pub fills_weakly : FillsOverBoth top node.WeakUntil weak_until
  fills_weakly work a b i j good l r = fills_over_both node.WeakUntil weak_until (λ T i j. refl) work a b i j good l r (l.stands, r.stands) tt tt
