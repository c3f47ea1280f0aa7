-- The list that is made anew, node by node.
use Rattle.std.proofs.Common.{◌≡◌, ℕ, suc, ◌+◌, ◌<◌, ◌≤◌, Bool, true, false, cond, ltb, inl, inr, List, [], ◌∷◌, ◌++◌, length, get_or, drop, Option, None, Some, All, refl, sym, ap, subst, ◌∙◌, arith, drop-cons, length-drop}
use Rattle.std.specs.Prelude.{min, option_and_then, option_map, position, slice_get}
use Rattle.std.proofs.lemmas.Bool.{cases_lt, false≢true, ltb-true}
use Rattle.std.proofs.lemmas.List.{append-nil, drop_all, length_push, get_or_append_left, get_or_push}
use Rattle.std.proofs.lemmas.List.Elements.{All-nil, All-push}
use Rattle.std.proofs.lemmas.Option.{none-some, same_Some, option_and_then_some, slice_get_within, get_or_from_slice_get}
use Rattle.ltl_formula.specs.declared.nodes.FormulaId.{FormulaId}
use Rattle.ltl_formula.specs.declared.nodes.Node.{Node}
use Rattle.ltl_formula.specs.declared.nodes.Node.TheVariants.{True, False, Signal, Not, Next, Finally, Globally, And, Or, Implies, Equiv, Until, Release, WeakUntil}
use Rattle.ltl_formula.specs.declared.nodes.TheConstants.{MAX_NODES, MAX_SIGNALS}
use Rattle.ltl_formula.specs.Tree.{Tree}
use Rattle.ltl_formula.specs.Tree.Tree.{signal, negation, next_time, finally, globally}
use Rattle.ltl_formula.specs.Nodes.{Grows, IsNodeList, PartsBelow, SignalBelow, IsNodeIn, pick, tree_at, tree_of, trees_of, node_at}
use Rattle.ltl_formula.specs.Added.{Built, added, built_at, node_eq}
use Rattle.ltl_formula.specs.ListSignals.{HasSignalsBelow, KeepsSignals}
use Rattle.ltl_formula.proofs.Trees.{tree_at-grown, tree_at-node, tree_of-parts}
use Rattle.ltl_formula.proofs.Lists.{Grows-trans, Grows-stands, Grows-added, room_below, IsNodeList-append, added-stands, tree_at-slice_get}
use Rattle.ltl_formula.proofs.ListSignals.{HasSignalsBelow-none, HasSignalsBelow-added}
use Rattle.kind_conversion.specs.declared.shifts.Shift.{Shift}
use Rattle.kind_conversion.specs.declared.conversion.ConvertedList.{ConvertedList}
use Rattle.kind_conversion.specs.ShiftedForm.{shifted_form}
use Rattle.kind_conversion.specs.ShiftedList.{ShiftedList, form_at, over_forms, is_shifted_node, then_next, put_form, put_forms, converted_of}
use Rattle.kind_conversion.specs.Laws.{IsConversion, SaysOfShifted, ConvertedListsSay}
use Rattle.kind_conversion.proofs.ShiftedTruth.{shifted_forms_say}

-- ---- one node over the forms of its parts

module _ (forms : List FormulaId) where
  pub parts-over : (m n : ℕ) (node : Node) → PartsBelow n node → ((p : FormulaId) → p.0 < n → (form_at forms p).0 < m) → PartsBelow m (over_forms forms node)
  parts-over m n True parts each = tt
  parts-over m n False parts each = tt
  parts-over m n (Signal s) parts each = tt
  parts-over m n (Not a) parts each = each a parts
  parts-over m n (Next a) parts each = each a parts
  parts-over m n (Finally a) parts each = each a parts
  parts-over m n (Globally a) parts each = each a parts
  parts-over m n (And a b) parts each = (each a parts.0, each b parts.1)
  parts-over m n (Or a b) parts each = (each a parts.0, each b parts.1)
  parts-over m n (Implies a b) parts each = (each a parts.0, each b parts.1)
  parts-over m n (Equiv a b) parts each = (each a parts.0, each b parts.1)
  parts-over m n (Until a b) parts each = (each a parts.0, each b parts.1)
  parts-over m n (Release a b) parts each = (each a parts.0, each b parts.1)
  parts-over m n (WeakUntil a b) parts each = (each a parts.0, each b parts.1)

  pub signal-over : (n : ℕ) (node : Node) → SignalBelow n node → SignalBelow n (over_forms forms node)
  signal-over n True h = tt
  signal-over n False h = tt
  signal-over n (Signal s) h = h
  signal-over n (Not a) h = tt
  signal-over n (Next a) h = tt
  signal-over n (Finally a) h = tt
  signal-over n (Globally a) h = tt
  signal-over n (And a b) h = tt
  signal-over n (Or a b) h = tt
  signal-over n (Implies a b) h = tt
  signal-over n (Equiv a b) h = tt
  signal-over n (Until a b) h = tt
  signal-over n (Release a b) h = tt
  signal-over n (WeakUntil a b) h = tt

module _ (shift : Shift) (inputs : ℕ) (forms : List FormulaId) (T U : List Tree) where
  abbrev Agrees : ℕ → Type 0
  Agrees n = (p : FormulaId) → p.0 < n → pick T (form_at forms p) ≡ shifted_form shift inputs (pick U p)

  tree-over : (n : ℕ) (node : Node) → is_shifted_node shift inputs node ≡ false → PartsBelow n node → Agrees n → tree_of T (over_forms forms node) ≡ shifted_form shift inputs (tree_of U node)
  tree-over n True e parts same = refl
  tree-over n False e parts same = refl
  tree-over n (Signal s) e parts same = ap (λ b. cond b (next_time (signal s)) (signal s)) (sym e)
  tree-over n (Not a) e parts same = ap negation (same a parts)
  tree-over n (Next a) e parts same = ap next_time (same a parts)
  tree-over n (Finally a) e parts same = ap finally (same a parts)
  tree-over n (Globally a) e parts same = ap globally (same a parts)
  tree-over n (And a b) e parts same = let x = same a parts.0 in let y = same b parts.1 in cc (x, y)
  tree-over n (Or a b) e parts same = let x = same a parts.0 in let y = same b parts.1 in cc (x, y)
  tree-over n (Implies a b) e parts same = let x = same a parts.0 in let y = same b parts.1 in cc (x, y)
  tree-over n (Equiv a b) e parts same = let x = same a parts.0 in let y = same b parts.1 in cc (x, y)
  tree-over n (Until a b) e parts same = let x = same a parts.0 in let y = same b parts.1 in cc (x, y)
  tree-over n (Release a b) e parts same = let x = same a parts.0 in let y = same b parts.1 in cc (x, y)
  tree-over n (WeakUntil a b) e parts same = let x = same a parts.0 in let y = same b parts.1 in cc (x, y)

  tree-next : (node : Node) → is_shifted_node shift inputs node ≡ true → next_time (tree_of T (over_forms forms node)) ≡ shifted_form shift inputs (tree_of U node)
  tree-next (Signal s) e = ap (λ b. cond b (next_time (signal s)) (signal s)) (sym e)
  tree-next node e = absurd (false≢true e)

-- ---- a node that is added

-- what was made in a list: its id names the formula there
pub record IsMade (old : List Node) (f : Tree) (built : Built) (id : FormulaId) : Type 0 where
  pub grows : Grows old built.nodes
  pub list : IsNodeList built.nodes
  pub stands : IsNodeIn built.nodes id
  pub tree : tree_at built.nodes id ≡ f

module _ (most : ℕ) (nodes : List Node) (new : Node) (list : IsNodeList nodes) (parts : PartsBelow (length nodes) new) (below : SignalBelow MAX_SIGNALS new) where
  added-list : IsNodeList (added most nodes new).nodes
  added-list = by (position (node_eq new) nodes) refl
    where
      by : (o : Option ℕ) → position (node_eq new) nodes ≡ o → IsNodeList (built_at most o nodes new).nodes
      by (Some i) found = list
      by None none = room (ltb (length nodes) (min most MAX_NODES)) refl
        where
          room : (b : Bool) → ltb (length nodes) (min most MAX_NODES) ≡ b
              → IsNodeList (cond b (let x : Built = record { nodes = nodes ++ new ∷ []; made = Some (record { 0 = length nodes }) } in x) (let x : Built = record { nodes = nodes; made = None } in x)).nodes
          room true e = IsNodeList-append nodes new list parts below none (room_below most (length nodes) (ltb-true (length nodes) (min most MAX_NODES) e))
          room false e = list

  added-made : (id : FormulaId) → (added most nodes new).made ≡ Some id → IsMade nodes (tree_of (trees_of nodes) new) (added most nodes new) id
  added-made id made =
      let at : slice_get (added most nodes new).nodes id.0 ≡ Some new = ap (λ ns. slice_get ns id.0) (sym (append-nil (added most nodes new).nodes)) ∙ added-stands most nodes new [] id made in
      record {
        grows = Grows-added most nodes new;
        list = added-list;
        stands = slice_get_within (added most nodes new).nodes id.0 new at;
        tree = tree_at-slice_get (added most nodes new).nodes new id.0 added-list at
            ∙ sym (tree_of-parts (length nodes) (trees_of nodes) (trees_of (added most nodes new).nodes) new parts (λ p h. sym (tree_at-grown nodes (added most nodes new).nodes p (Grows-added most nodes new) h)));
      }

-- X of what was made
module _ (most : ℕ) (old : List Node) (f : Tree) (built : Built) (made_before : (mid : FormulaId) → built.made ≡ Some mid → IsMade old f built mid) where
  pub next-is : (mid : FormulaId) → built.made ≡ Some mid → then_next most built ≡ added most built.nodes (Next mid)
  next-is mid e = ap (λ o. then_next most (record { nodes = built.nodes; made = o })) e

  next-made : (id : FormulaId) → (then_next most built).made ≡ Some id → IsMade old (next_time f) (then_next most built) id
  next-made id made = by built.made refl
    where
      by : (o : Option FormulaId) → built.made ≡ o → IsMade old (next_time f) (then_next most built) id
      by None none = absurd (none-some id (sym none ∙ sym (ap (λ o. (then_next most (record { nodes = built.nodes; made = o })).made) none ∙ sym none) ∙ made))
      by (Some mid) some =
          let m : IsMade old f built mid = made_before mid some in
          let is : then_next most built ≡ added most built.nodes (Next mid) = next-is mid some in
          let n : IsMade built.nodes (next_time (tree_at built.nodes mid)) (added most built.nodes (Next mid)) id =
          added-made most built.nodes (Next mid) m.list m.stands tt id (ap (λ b. b.made) (sym is) ∙ made) in
          subst (λ b. IsMade old (next_time f) b id) (sym is) (record {
            grows = Grows-trans old built.nodes (added most built.nodes (Next mid)).nodes m.grows n.grows;
            list = n.list;
            stands = n.stands;
            tree = n.tree ∙ ap next_time m.tree;
          })

-- ---- the forms that were made so far

pub record AreForms (shift : Shift) (inputs : ℕ) (written nodes : List Node) (forms : List FormulaId) : Type 0 where
  pub list : IsNodeList nodes
  pub stand : All (λ id. IsNodeIn nodes id) forms
  pub trees : (i : ℕ) → i < length forms → tree_at nodes (form_at forms (record { 0 = i })) ≡ shifted_form shift inputs (tree_at written (record { 0 = i }))
  pub signals : KeepsSignals written nodes

pub no_forms : (shift : Shift) (inputs : ℕ) (written : List Node) → AreForms shift inputs written [] []
no_forms shift inputs written = record {
  list = record { parts_first = λ i. tt; signals = λ i. tt; different = λ i j h. absurd (omega arith); most = omega arith };
  stand = All-nil (λ id. IsNodeIn [] id);
  trees = λ i h. absurd (omega arith);
  signals = record { kept = λ n h. HasSignalsBelow-none n };
}

module _ (most : ℕ) (shift : Shift) (inputs : ℕ) (written : List Node) (from : IsNodeList written) (nodes : List Node) (forms : List FormulaId)
    (made : AreForms shift inputs written nodes forms) (node : Node) (within : length forms < length written) (is : node_at written (length forms) ≡ node) where
  parts_here : PartsBelow (length forms) node
  parts_here = subst (PartsBelow (length forms)) is (from.parts_first (length forms))

  pub form-stands : (p : FormulaId) → p.0 < length forms → (form_at forms p).0 < length nodes
  form-stands p h = made.stand p.0 (record { 0 = 0 }) h

  first : Built
  first = added most nodes (over_forms forms node)

  first-made : (id : FormulaId) → first.made ≡ Some id → IsMade nodes (tree_of (trees_of nodes) (over_forms forms node)) first id
  unfolding first
  first-made =
      added-made most nodes (over_forms forms node) made.list (parts-over forms (length nodes) (length forms) node parts_here form-stands)
      (signal-over forms MAX_SIGNALS node (subst (SignalBelow MAX_SIGNALS) is (from.signals (length forms))))

  tree_here : tree_at written (record { 0 = length forms }) ≡ tree_of (trees_of written) node
  tree_here = tree_at-node written (length forms) within (from.parts_first (length forms)) ∙ ap (tree_of (trees_of written)) is

  put-made : (id : FormulaId) → (put_form most shift inputs forms node nodes).made ≡ Some id
      → IsMade nodes (shifted_form shift inputs (tree_at written (record { 0 = length forms }))) (put_form most shift inputs forms node nodes) id
  unfolding first
  put-made id e = subst (λ f. IsMade nodes (shifted_form shift inputs f) (put_form most shift inputs forms node nodes) id) (sym tree_here) (by (is_shifted_node shift inputs node) refl e)
    where
      by : (b : Bool) → is_shifted_node shift inputs node ≡ b → (cond b (then_next most first) first).made ≡ Some id
          → IsMade nodes (shifted_form shift inputs (tree_of (trees_of written) node)) (cond b (then_next most first) first) id
      by true shifted put =
          subst (λ f. IsMade nodes f (then_next most first) id) (tree-next shift inputs forms (trees_of nodes) (trees_of written) node shifted)
          (next-made most nodes (tree_of (trees_of nodes) (over_forms forms node)) first first-made id put)
      by false kept put =
          subst (λ f. IsMade nodes f first id) (tree-over shift inputs forms (trees_of nodes) (trees_of written) (length forms) node kept parts_here (λ p h. made.trees p.0 h))
          (first-made id put)

  put-signals : KeepsSignals written (put_form most shift inputs forms node nodes).nodes
  unfolding first
  put-signals = record { kept = λ n h. by n h (is_shifted_node shift inputs node) }
    where
      first-signals : (n : ℕ) → HasSignalsBelow n written → HasSignalsBelow n first.nodes
      first-signals n h = HasSignalsBelow-added most n nodes (over_forms forms node) (made.signals.kept n h) (signal-over forms n node (subst (SignalBelow n) is (h.nodes_below (length forms))))

      next-signals : (n : ℕ) → HasSignalsBelow n first.nodes → (o : Option FormulaId) → HasSignalsBelow n (then_next most (record { nodes = first.nodes; made = o })).nodes
      next-signals n h None = h
      next-signals n h (Some id) = HasSignalsBelow-added most n first.nodes (Next id) h tt

      by : (n : ℕ) → HasSignalsBelow n written → (b : Bool) → HasSignalsBelow n (cond b (then_next most first) first).nodes
      by n h true = next-signals n (first-signals n h) first.made
      by n h false = first-signals n h

  pub AreForms-more : (id : FormulaId) → (put_form most shift inputs forms node nodes).made ≡ Some id → AreForms shift inputs written (put_form most shift inputs forms node nodes).nodes (forms ++ id ∷ [])
  AreForms-more id e =
      let new : List Node = (put_form most shift inputs forms node nodes).nodes in
      let m : IsMade nodes (shifted_form shift inputs (tree_at written (record { 0 = length forms }))) (put_form most shift inputs forms node nodes) id = put-made id e in
      record {
        list = m.list;
        stand = All-push (λ f. IsNodeIn new f) forms id (λ k d lt. Grows-stands nodes new (get_or forms k d) m.grows (made.stand k d lt)) m.stands;
        trees = λ i h.
            let long : length (forms ++ id ∷ []) ≡ length forms + 1 = length_push forms id in
            elim (cases_lt i (length forms)) [
              | inl before ↦
                  ap (tree_at new) (get_or_append_left forms (id ∷ []) (record { 0 = 0 }) i before)
                  ∙ tree_at-grown nodes new (form_at forms (record { 0 = i })) m.grows (form-stands (record { 0 = i }) before)
                  ∙ made.trees i before
              | inr past ↦
                  let last : length forms ≡ i = omega arith in
                  ap (tree_at new) (get_or_push forms id (record { 0 = 0 }) i last) ∙ m.tree
                  ∙ ap (λ n. shifted_form shift inputs (tree_at written (record { 0 = n }))) last
            ];
        signals = put-signals;
      }

-- ---- the whole list

module _ (most : ℕ) (shift : Shift) (inputs : ℕ) (written : List Node) (from : IsNodeList written) where
  put_forms-made : (left : List Node) (so_far end : ShiftedList) → AreForms shift inputs written so_far.nodes so_far.forms → drop (length so_far.forms) written ≡ left
      → put_forms most shift inputs left so_far ≡ Some end → AreForms shift inputs written end.nodes end.forms × (length written ≤ length end.forms)
  put_forms-made [] so_far end made none e =
      let same : so_far ≡ end = same_Some so_far end e in
      let few : length (drop (length so_far.forms) written) ≡ 0 = ap length none in
      let long = length-drop (length so_far.forms) written in
      subst (λ s. AreForms shift inputs written s.nodes s.forms × (length written ≤ length s.forms)) same (made, omega arith)
  put_forms-made (node ∷ left) so_far end made more e =
      let here : Built = put_form most shift inputs so_far.forms node so_far.nodes in
      let many : length (drop (length so_far.forms) written) ≡ suc (length left) = ap length more in
      let long = length-drop (length so_far.forms) written in
      let within : length so_far.forms < length written = omega arith in
      let split : node_at written (length so_far.forms) ∷ drop (suc (length so_far.forms)) written ≡ node ∷ left = sym (drop-cons written (length so_far.forms) False within) ∙ more in
      option_and_then_some (λ id. put_forms most shift inputs left (record { nodes = here.nodes; forms = so_far.forms ++ id ∷ [] })) here.made end e
      (λ id some rest.
      let pushed : length (so_far.forms ++ id ∷ []) ≡ suc (length so_far.forms) = length_push so_far.forms id ∙ omega arith in
      put_forms-made left (record { nodes = here.nodes; forms = so_far.forms ++ id ∷ [] }) end
      (AreForms-more most shift inputs written from so_far.nodes so_far.forms made node within (ap (λ xs. get_or xs 0 False) split) id some)
      (ap (λ n. drop n written) pushed ∙ ap (drop 1) split) rest)

  module _ (whole : FormulaId) (stands : IsNodeIn written whole) where
    abbrev ending : ShiftedList → ConvertedList
    ending made = record { formulas = made.nodes; whole = form_at made.forms whole }

    ended : (made : ShiftedList) → AreForms shift inputs written made.nodes made.forms → length written ≤ length made.forms → IsConversion shift inputs written whole (ending made)
    ended made forms all =
        let there : whole.0 < length made.forms = omega arith in
        let tree : tree_at made.nodes (form_at made.forms whole) ≡ shifted_form shift inputs (tree_at written whole) = forms.trees whole.0 there in
        record {
          list = forms.list;
          stands = forms.stand whole.0 (record { 0 = 0 }) there;
          tree = tree;
          truth = subst (λ g. SaysOfShifted shift inputs (tree_at written whole) g) (sym tree) (shifted_forms_say shift inputs (tree_at written whole));
          signals = forms.signals;
        }

    ended_by : (o : Option ShiftedList) → ((made : ShiftedList) → o ≡ Some made → IsConversion shift inputs written whole (ending made))
        → (c : ConvertedList) → option_map ending o ≡ Some c → IsConversion shift inputs written whole c
    ended_by None each c e = absurd (none-some c e)
    ended_by (Some made) each c e = subst (IsConversion shift inputs written whole) (same_Some (ending made) c e) (each made refl)

    pub converted_says : (c : ConvertedList) → converted_of most shift inputs written whole ≡ Some c → IsConversion shift inputs written whole c
    converted_says =
        ended_by (put_forms most shift inputs written (record { nodes = []; forms = [] }))
        (λ made e.
        let all = put_forms-made written (record { nodes = []; forms = [] }) made (no_forms shift inputs written) refl e in
        ended made all.0 all.1)

pub converted_lists_say : ConvertedListsSay
converted_lists_say most shift inputs nodes whole c list stands = converted_says most shift inputs nodes list whole stands c

-- ---- one turn of the loop

module _ (most : ℕ) (shift : Shift) (inputs : ℕ) (written nodes : List Node) (forms : List FormulaId) (node : Node) (i : ℕ) (there : slice_get written i ≡ Some node) where
  node-at : node_at written i ≡ node
  node-at = get_or_from_slice_get written i node False there

  rest-is : drop i written ≡ node ∷ drop (i + 1) written
  rest-is =
      let e : suc i ≡ i + 1 = omega arith in
      drop-cons written i False (slice_get_within written i node there) ∙ ap (λ x. x ∷ drop (suc i) written) node-at ∙ ap (λ n. node ∷ drop n written) e

  turn : Built → Option ShiftedList
  turn b = option_and_then (λ id. put_forms most shift inputs (drop (i + 1) written) (record { nodes = b.nodes; forms = forms ++ id ∷ [] })) b.made

  turn-is : put_forms most shift inputs (drop i written) (record { nodes = nodes; forms = forms }) ≡ turn (put_form most shift inputs forms node nodes)
  unfolding turn
  turn-is = ap (λ left. put_forms most shift inputs left (record { nodes = nodes; forms = forms })) rest-is

  pub turn-same : (new : List Node) (id : FormulaId) (pushed : List FormulaId) → put_form most shift inputs forms node nodes ≡ record { nodes = new; made = Some id } → pushed ≡ forms ++ id ∷ []
      → put_forms most shift inputs (drop i written) (record { nodes = nodes; forms = forms }) ≡ put_forms most shift inputs (drop (i + 1) written) (record { nodes = new; forms = pushed })
  unfolding turn
  turn-same new id pushed put is =
      turn-is ∙ ap turn put ∙ ap (λ fs. put_forms most shift inputs (drop (i + 1) written) (record { nodes = new; forms = fs })) (sym is)

  pub turn-none : (put_form most shift inputs forms node nodes).made ≡ None → put_forms most shift inputs (drop i written) (record { nodes = nodes; forms = forms }) ≡ None
  unfolding turn
  turn-none none = turn-is ∙ ap (λ o. turn (record { nodes = (put_form most shift inputs forms node nodes).nodes; made = o })) none

  pub turn-known : IsNodeList written → AreForms shift inputs written nodes forms → length forms ≡ i → (new : List Node) (id : FormulaId) (pushed : List FormulaId)
      → put_form most shift inputs forms node nodes ≡ record { nodes = new; made = Some id } → pushed ≡ forms ++ id ∷ [] → AreForms shift inputs written new pushed
  turn-known from made many new id pushed put is =
      let within : length forms < length written = let w = slice_get_within written i node there in omega arith in
      let here : node_at written (length forms) ≡ node = ap (node_at written) many ∙ node-at in
      let known : AreForms shift inputs written (put_form most shift inputs forms node nodes).nodes (forms ++ id ∷ []) =
      AreForms-more most shift inputs written from nodes forms made node within here id (ap (λ b. b.made) put) in
      subst (λ fs. AreForms shift inputs written new fs) (sym is) (subst (λ b. AreForms shift inputs written b.nodes (forms ++ id ∷ [])) put known)

-- a node that stands has a signal that a list may have
pub signal-there : (written : List Node) (i : ℕ) (node : Node) → IsNodeList written → slice_get written i ≡ Some node → SignalBelow MAX_SIGNALS node
signal-there written i node from there = subst (SignalBelow MAX_SIGNALS) (get_or_from_slice_get written i node False there) (from.signals i)

-- the list that is made anew, where it is known what comes of it
module _ (most : ℕ) (shift : Shift) (inputs : ℕ) (written : List Node) (whole : FormulaId) where
  pub converted-none : (rest : Option ShiftedList) → put_forms most shift inputs written (record { nodes = []; forms = [] }) ≡ rest → rest ≡ None → converted_of most shift inputs written whole ≡ None
  converted-none rest e none = ap (option_map (λ made. let c : ConvertedList = record { formulas = made.nodes; whole = form_at made.forms whole } in c)) (e ∙ none)

  pub converted-some : (i : ℕ) (nodes : List Node) (forms : List FormulaId)
      → put_forms most shift inputs written (record { nodes = []; forms = [] }) ≡ put_forms most shift inputs (drop i written) (record { nodes = nodes; forms = forms }) → length written ≤ i
      → converted_of most shift inputs written whole ≡ Some (let c : ConvertedList = record { formulas = nodes; whole = form_at forms whole } in c)
  converted-some i nodes forms e all =
      ap (option_map (λ made. let c : ConvertedList = record { formulas = made.nodes; whole = form_at made.forms whole } in c))
      (e ∙ ap (λ left. put_forms most shift inputs left (record { nodes = nodes; forms = forms })) (drop_all i written all))
