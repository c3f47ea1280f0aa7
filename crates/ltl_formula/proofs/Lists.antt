use Rattle.std.proofs.Common.{◌≡◌, ℕ, zero, suc, ◌+◌, ◌<◌, Bool, true, false, cond, ltb, inl, inr, List, [], ◌∷◌, ◌++◌, length, Option, None, Some, Result, Ok, Err, refl, sym, ap, subst, ◌∙◌, arith, append_assoc}
use Rattle.std.specs.Prelude.{min, position, slice_get, IfOk, OnOk}
use Rattle.std.specs.List.{position_or_len}
use Rattle.std.proofs.lemmas.Bool.{lt-ltb, cases_eq, cases_lt, true≢false}
use Rattle.std.proofs.lemmas.List.{length-append, get_or_append_left, get_or_past, append-nil}
use Rattle.std.proofs.lemmas.List.Quantifiers.{position-Some}
use Rattle.std.proofs.lemmas.List.Sums.{position_or_len_is, fails_before_first}
use Rattle.std.proofs.lemmas.Option.{none-some, same_Some, slice_get-get_or, get_or_from_slice_get, slice_get_within}
use Rattle.std.proofs.Math.Nat.{min-le_right}
use Rattle.std.proofs.Math.Seq.{get_or-append_seam}
use Rattle.ltl_formula.specs.declared.faults.AddFault.{AddFault}
use Rattle.ltl_formula.specs.declared.nodes.FormulaId.{FormulaId}
use Rattle.ltl_formula.specs.declared.nodes.Node.{Node}
use Rattle.ltl_formula.specs.declared.nodes.Node.TheVariants.{True, False, Signal, Not, Next, Finally, Globally, And, Or, Implies, Equiv, Until, Release, WeakUntil}
use Rattle.ltl_formula.specs.declared.nodes.TheConstants.{MAX_NODES, MAX_SIGNALS}
use Rattle.ltl_formula.specs.Nodes.{tree_of, trees_of, tree_at, pick, node_at, PartsBelow, SignalBelow, IsNodeList, IsNodeIn, Grows}
use Rattle.ltl_formula.specs.Added.{node_eq, Built, built_at, added}
use Rattle.ltl_formula.specs.Laws.{OneIdPerFormula, SignalsAreBelow}
use Rattle.ltl_formula.specs.Tree.{Tree, SignalsBelow}
use Rattle.ltl_formula.proofs.NodeEquality.{node_eq-true, node_eq-self, node_from_tree, same_id_of}
use Rattle.ltl_formula.proofs.Trees.{tree_at-last, tree_at-node}

-- a list that takes a node isn't full
pub room_below : (most n : ℕ) → n < min most MAX_NODES → n < MAX_NODES
room_below most n h = let least = min-le_right most MAX_NODES in omega (arith, least, h)

-- growing is an order
pub Grows-refl : (nodes : List Node) → Grows nodes nodes
Grows-refl nodes = record { more = []; appended = sym (append-nil nodes) }

pub Grows-trans : (a b c : List Node) → Grows a b → Grows b c → Grows a c
Grows-trans a b c ab bc = record {
  more = ab.more ++ bc.more;
  appended = bc.appended ∙ ap (λ xs. xs ++ bc.more) ab.appended ∙ append_assoc a ab.more bc.more;
}

pub Grows-append : (nodes more : List Node) → Grows nodes (nodes ++ more)
Grows-append nodes more = record { more = more; appended = refl }

pub Grows-stands : (old new : List Node) (id : FormulaId) → Grows old new → IsNodeIn old id → IsNodeIn new id
Grows-stands old new id grows h =
    let e : length new ≡ length old + length grows.more = ap length grows.appended ∙ length-append old grows.more in
    omega arith

pub Grows-node_at : (old new : List Node) (i : ℕ) → Grows old new → i < length old → node_at new i ≡ node_at old i
Grows-node_at old new i grows h = ap (λ xs. node_at xs i) grows.appended ∙ get_or_append_left old grows.more False i h

-- the first place of a test
module _ (p : Node → Bool) where
  position-None : (xs : List Node) → position p xs ≡ None → (k : ℕ) → k < length xs → p (node_at xs k) ≡ false
  position-None xs none k h =
      elim (cases_lt (position_or_len p xs) (length xs)) [
        | inl there ↦ absurd (none-some (position_or_len p xs) (sym none ∙ ap (λ b. cond b (Some (position_or_len p xs)) None) (lt-ltb (position_or_len p xs) (length xs) there)))
        | inr past ↦ fails_before_first p xs k False (omega arith)
      ]

  position-at : (xs : List Node) (i : ℕ) → i < length xs → p (node_at xs i) ≡ true → ((k : ℕ) → k < i → p (node_at xs k) ≡ false) → position p xs ≡ Some i
  position-at xs i h here before =
      let e : position_or_len p xs ≡ i = position_or_len_is p xs i False (omega arith) before (λ _. here) in
      ap (λ n. cond (ltb n (length xs)) (Some n) None) e ∙ ap (λ b. cond b (Some i) None) (lt-ltb i (length xs) h)

-- a node that was added stands at its id in every longer list, and is found there
module _ (most : ℕ) (nodes : List Node) (node : Node) (more : List Node) (id : FormulaId) where
  again : (o : Option ℕ) → position (node_eq node) nodes ≡ o → (built_at most o nodes node).made ≡ Some id
      → (position (node_eq node) ((built_at most o nodes node).nodes ++ more) ≡ Some id.0) × (slice_get ((built_at most o nodes node).nodes ++ more) id.0 ≡ Some node)
  again (Some i) found made =
      let same : i ≡ id.0 = let e : ◌≡◌ {A = FormulaId} (record { 0 = i }) id = same_Some (record { 0 = i }) id made in ap (λ x. x.0) e in
      let at = position-Some (node_eq node) nodes i False found in
      let long : length (nodes ++ more) ≡ length nodes + length more = length-append nodes more in
      let within : i < length nodes = at.0 in
      let kept : (k : ℕ) → k < length nodes → node_at (nodes ++ more) k ≡ node_at nodes k = λ k h. get_or_append_left nodes more False k h in
      let is : node ≡ node_at nodes i = node_eq-true node (node_at nodes i) at.1 in
      let longer : i < length (nodes ++ more) = omega arith in (
        position-at (node_eq node) (nodes ++ more) i longer (ap (node_eq node) (kept i within) ∙ at.1)
            (λ k h. ap (node_eq node) (kept k (omega arith)) ∙ at.2 k h) ∙ ap Some same,
        ap (slice_get (nodes ++ more)) (sym same) ∙ slice_get-get_or (nodes ++ more) i False longer ∙ ap Some (kept i within ∙ sym is),
      )
  again None none made = by (ltb (length nodes) (min most MAX_NODES)) refl made
    where
      by : (b : Bool) → ltb (length nodes) (min most MAX_NODES) ≡ b
          → (cond b (let x : Built = record { nodes = nodes ++ node ∷ []; made = Some (record { 0 = length nodes }) } in x) (let x : Built = record { nodes = nodes; made = None } in x)).made ≡ Some id
          → (position (node_eq node) ((cond b (let x : Built = record { nodes = nodes ++ node ∷ []; made = Some (record { 0 = length nodes }) } in x) (let x : Built = record { nodes = nodes; made = None } in x)).nodes ++ more) ≡ Some id.0)
          × (slice_get ((cond b (let x : Built = record { nodes = nodes ++ node ∷ []; made = Some (record { 0 = length nodes }) } in x) (let x : Built = record { nodes = nodes; made = None } in x)).nodes ++ more) id.0 ≡ Some node)
      by false _ never = absurd (none-some id never)
      by true _ made =
          let same : length nodes ≡ id.0 = let e : ◌≡◌ {A = FormulaId} (record { 0 = length nodes }) id = same_Some (record { 0 = length nodes }) id made in ap (λ x. x.0) e in
          let regroup : (nodes ++ node ∷ []) ++ more ≡ nodes ++ node ∷ more = append_assoc nodes (node ∷ []) more in
          let long : length (nodes ++ node ∷ more) ≡ length nodes + suc (length more) = length-append nodes (node ∷ more) in
          let within : length nodes < length (nodes ++ node ∷ more) = omega arith in
          let here : node_at (nodes ++ node ∷ more) (length nodes) ≡ node = get_or-append_seam nodes node more False in (
            ap (position (node_eq node)) regroup
                ∙ position-at (node_eq node) (nodes ++ node ∷ more) (length nodes) within (ap (node_eq node) here ∙ node_eq-self node)
                (λ k h. ap (node_eq node) (get_or_append_left nodes (node ∷ more) False k h) ∙ position-None (node_eq node) nodes none k h)
                ∙ ap Some same,
            ap (slice_get ((nodes ++ node ∷ []) ++ more)) (sym same) ∙ ap (λ xs. slice_get xs (length nodes)) regroup
                ∙ slice_get-get_or (nodes ++ node ∷ more) (length nodes) False within ∙ ap Some here,
          )

  pub added-again : (added most nodes node).made ≡ Some id → added most ((added most nodes node).nodes ++ more) node ≡ record { nodes = (added most nodes node).nodes ++ more; made = Some id }
  added-again made =
      ap (λ o. built_at most o ((added most nodes node).nodes ++ more) node) (again (position (node_eq node) nodes) refl made).0

  pub added-stands : (added most nodes node).made ≡ Some id → slice_get ((added most nodes node).nodes ++ more) id.0 ≡ Some node
  added-stands made = (again (position (node_eq node) nodes) refl made).1

-- adding only ever grows the list
pub Grows-added : (most : ℕ) (nodes : List Node) (node : Node) → Grows nodes (added most nodes node).nodes
Grows-added most nodes node = by (position (node_eq node) nodes)
  where
    by : (o : Option ℕ) → Grows nodes (built_at most o nodes node).nodes
    by (Some i) = Grows-refl nodes
    by None =
        elim (ltb (length nodes) (min most MAX_NODES)) as (λ b. Grows nodes (cond b (let x : Built = record { nodes = nodes ++ node ∷ []; made = Some (record { 0 = length nodes }) } in x) (let x : Built = record { nodes = nodes; made = None } in x)).nodes) [
          | true ↦ Grows-append nodes (node ∷ [])
          | false ↦ Grows-refl nodes
        ]

-- a new node, whose parts stand, goes last in a list that has room
module _ (nodes : List Node) (node : Node) (list : IsNodeList nodes) (parts : PartsBelow (length nodes) node) (signal : SignalBelow MAX_SIGNALS node)
    (absent : position (node_eq node) nodes ≡ None) (room : length nodes < MAX_NODES) where
  at_last : node_at (nodes ++ node ∷ []) (length nodes) ≡ node
  at_last = get_or-append_seam nodes node [] False

  longer : length (nodes ++ node ∷ []) ≡ length nodes + 1
  longer = length-append nodes (node ∷ [])

  each : (P : ℕ → Node → Type 0) → ((i : ℕ) → P i (node_at nodes i)) → ((i : ℕ) → P i False) → P (length nodes) node → (i : ℕ) → P i (node_at (nodes ++ node ∷ []) i)
  each P old past new i =
      elim (cases_lt i (length nodes)) [
        | inl before ↦ rw (get_or_append_left nodes (node ∷ []) False i before) (old i)
        | inr from ↦
            elim (cases_eq i (length nodes)) [
              | inl e ↦ subst (λ k. P k (node_at (nodes ++ node ∷ []) k)) (sym e) (rw at_last new)
              | inr ne ↦ let l = longer in rw (get_or_past (nodes ++ node ∷ []) i False (omega (arith, ne))) (past i)
            ]
      ]

  different_from_new : (i : ℕ) → i < length nodes → node_at nodes i ≡ node → ⊥
  different_from_new i h e = true≢false (sym (node_eq-self node) ∙ ap (node_eq node) (sym e) ∙ position-None (node_eq node) nodes absent i h)

  different : (i j : ℕ) → i < length (nodes ++ node ∷ []) → j < length (nodes ++ node ∷ []) → node_at (nodes ++ node ∷ []) i ≡ node_at (nodes ++ node ∷ []) j → i ≡ j
  different i j hi hj e =
      let l = longer in
      let kept : (k : ℕ) → k < length nodes → node_at (nodes ++ node ∷ []) k ≡ node_at nodes k = λ k h. get_or_append_left nodes (node ∷ []) False k h in
      let last : (k : ℕ) → k ≡ length nodes → node_at (nodes ++ node ∷ []) k ≡ node = λ k same. ap (node_at (nodes ++ node ∷ [])) same ∙ at_last in
      elim (cases_lt i (length nodes)) [
        | inl before_i ↦
            elim (cases_lt j (length nodes)) [
              | inl before_j ↦ list.different i j before_i before_j (sym (kept i before_i) ∙ e ∙ kept j before_j)
              | inr from_j ↦ absurd (different_from_new i before_i (sym (kept i before_i) ∙ e ∙ last j (omega arith)))
            ]
        | inr from_i ↦
            elim (cases_lt j (length nodes)) [
              | inl before_j ↦ absurd (different_from_new j before_j (sym (kept j before_j) ∙ sym e ∙ last i (omega arith)))
              | inr from_j ↦ omega arith
            ]
      ]

  pub IsNodeList-append : IsNodeList (nodes ++ node ∷ [])
  IsNodeList-append = record {
    parts_first = each PartsBelow list.parts_first (λ i. tt) parts;
    signals = each (λ _ x. SignalBelow MAX_SIGNALS x) list.signals (λ i. tt) signal;
    different = different;
    most = let l = longer in let r : length nodes < MAX_NODES = room in omega arith;
  }

-- a list has one id for a formula
one_id_below : (nodes : List Node) → IsNodeList nodes → (fuel : ℕ) (a b : FormulaId) → a.0 < fuel → IsNodeIn nodes a → IsNodeIn nodes b → tree_at nodes a ≡ tree_at nodes b → a ≡ b
one_id_below nodes list zero a b small ha hb e = absurd (omega arith)
one_id_below nodes list (suc fuel) a b small ha hb e =
    let of_a : tree_at nodes a ≡ tree_of (trees_of nodes) (node_at nodes a.0) = tree_at-node nodes a.0 ha (list.parts_first a.0) in
    let of_b : tree_at nodes b ≡ tree_of (trees_of nodes) (node_at nodes b.0) = tree_at-node nodes b.0 hb (list.parts_first b.0) in
    let same : node_at nodes a.0 ≡ node_at nodes b.0 =
    node_from_tree (trees_of nodes) a.0 b.0
    (λ x y hx hy trees. one_id_below nodes list fuel x y (omega arith) (omega arith) (omega arith) trees)
    (node_at nodes a.0) (node_at nodes b.0) (list.parts_first a.0) (list.parts_first b.0) (sym of_a ∙ e ∙ of_b) in
    same_id_of a b (list.different a.0 b.0 ha hb same)

pub one_id_per_formula : OneIdPerFormula
one_id_per_formula nodes a b list ha hb e = one_id_below nodes list (suc a.0) a b (omega arith) ha hb e

-- a node that is found stands, and its tree is made of its parts'
pub found-stands : (nodes : List Node) (node : Node) (i : ℕ) → position (node_eq node) nodes ≡ Some i → slice_get nodes i ≡ Some node
found-stands nodes node i found =
    let at = position-Some (node_eq node) nodes i False found in
    slice_get-get_or nodes i False at.0 ∙ ap Some (sym (node_eq-true node (node_at nodes i) at.1))

pub tree_at-slice_get : (nodes : List Node) (node : Node) (i : ℕ) → IsNodeList nodes → slice_get nodes i ≡ Some node → tree_at nodes (record { 0 = i }) ≡ tree_of (trees_of nodes) node
tree_at-slice_get nodes node i list at =
    let is : node_at nodes i ≡ node = get_or_from_slice_get nodes i node False at in
    tree_at-node nodes i (slice_get_within nodes i node at) (list.parts_first i) ∙ ap (tree_of (trees_of nodes)) is

-- the same of a node that went last
module _ (most : ℕ) (old new : List Node) (node : Node) where
  pub last-stands : (r : Result FormulaId AddFault) → IfOk r (λ id. (id ≡ record { 0 = length old }) × (length old < min most MAX_NODES)) → OnOk r (new ≡ old ++ node ∷ [])
      → IfOk r (λ id. slice_get new id.0 ≡ Some node)
  last-stands (Err fault) last grown = tt
  last-stands (Ok id) last grown =
      let long : length (old ++ node ∷ []) ≡ length old + 1 = length-append old (node ∷ []) in
      ap (λ n. slice_get new n) (ap (λ x. x.0) last.0) ∙ ap (λ xs. slice_get xs (length old)) grown
      ∙ slice_get-get_or (old ++ node ∷ []) (length old) False (omega arith) ∙ ap Some (get_or-append_seam old node [] False)

  pub last-tree : (r : Result FormulaId AddFault) → IfOk r (λ id. (id ≡ record { 0 = length old }) × (length old < min most MAX_NODES)) → OnOk r (new ≡ old ++ node ∷ [])
      → IfOk r (λ id. tree_at new id ≡ tree_of (trees_of old) node)
  last-tree (Err fault) last grown = tt
  last-tree (Ok id) last grown = ap (tree_at new) last.0 ∙ ap (λ xs. tree_at xs (record { 0 = length old })) grown ∙ tree_at-last old node

-- a node's formula has the node's signal and those of its parts
pub SignalsBelow-tree_of : (n i : ℕ) (trees : List Tree) (node : Node) → PartsBelow i node → SignalBelow n node → ((p : FormulaId) → p.0 < i → SignalsBelow n (pick trees p)) → SignalsBelow n (tree_of trees node)
SignalsBelow-tree_of n i trees True parts signal each = tt
SignalsBelow-tree_of n i trees False parts signal each = tt
SignalsBelow-tree_of n i trees (Signal s) parts signal each = signal
SignalsBelow-tree_of n i trees (Not a) parts signal each = each a parts
SignalsBelow-tree_of n i trees (Next a) parts signal each = each a parts
SignalsBelow-tree_of n i trees (Finally a) parts signal each = each a parts
SignalsBelow-tree_of n i trees (Globally a) parts signal each = each a parts
SignalsBelow-tree_of n i trees (And a b) parts signal each = (each a parts.0, each b parts.1)
SignalsBelow-tree_of n i trees (Or a b) parts signal each = (each a parts.0, each b parts.1)
SignalsBelow-tree_of n i trees (Implies a b) parts signal each = (each a parts.0, each b parts.1)
SignalsBelow-tree_of n i trees (Equiv a b) parts signal each = (each a parts.0, each b parts.1)
SignalsBelow-tree_of n i trees (Until a b) parts signal each = (each a parts.0, each b parts.1)
SignalsBelow-tree_of n i trees (Release a b) parts signal each = (each a parts.0, each b parts.1)
SignalsBelow-tree_of n i trees (WeakUntil a b) parts signal each = (each a parts.0, each b parts.1)

signals_below_by : (nodes : List Node) → IsNodeList nodes → (fuel : ℕ) (id : FormulaId) → id.0 < fuel → IsNodeIn nodes id → SignalsBelow MAX_SIGNALS (tree_at nodes id)
signals_below_by nodes list zero id small h = absurd (omega arith)
signals_below_by nodes list (suc fuel) id small h =
    rw (tree_at-node nodes id.0 h (list.parts_first id.0))
    (SignalsBelow-tree_of MAX_SIGNALS id.0 (trees_of nodes) (node_at nodes id.0) (list.parts_first id.0) (list.signals id.0)
    (λ p below. signals_below_by nodes list fuel p (omega arith) (omega arith)))

pub signals_are_below : SignalsAreBelow
signals_are_below nodes id list h = signals_below_by nodes list (suc id.0) id (omega arith) h
