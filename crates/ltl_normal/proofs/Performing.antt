use Rattle.std.proofs.Common.{◌≡◌, ℕ, ◌<◌, ◌≤◌, Bool, true, false, cond, ltb, inl, inr, List, [], ◌∷◌, ◌++◌, length, get_or, Option, None, Some, Result, Ok, Err, refl, sym, ap, subst, ◌∙◌, arith}
use Rattle.std.specs.Prelude.{min, position, slice_get, slice_set, IfOk, OnErr, OnOk, if◌then◌else◌}
use Rattle.std.proofs.lemmas.Bool.{cases_eq, cases_lt}
use Rattle.std.proofs.lemmas.List.{get_or-replicate, length-replicate, get_or_past}
use Rattle.std.specs.Prelude.{replicate}
use Rattle.std.proofs.lemmas.Option.{none-some, same_Some, slice_get_within}
use Rattle.ltl_formula.specs.declared.faults.AddFault.{AddFault}
use Rattle.ltl_formula.specs.declared.faults.AddFault.TheVariants.{TooManyNodes}
use Rattle.ltl_formula.specs.declared.nodes.FormulaId.{FormulaId}
use Rattle.ltl_formula.specs.declared.nodes.Node.{Node}
use Rattle.ltl_formula.specs.declared.nodes.Node.TheVariants as node
use Rattle.ltl_formula.specs.declared.nodes.TheConstants.{MAX_NODES}
use Rattle.ltl_formula.specs.Tree.{Tree}
use Rattle.ltl_formula.specs.Nodes.{Grows, IsNodeList, PartsBelow, IsNodeIn, tree_at}
use Rattle.ltl_formula.specs.Added.{Built, added, built_at, node_eq}
use Rattle.ltl_formula.proofs.Trees.{tree_at-grown}
use Rattle.ltl_formula.proofs.Lists.{Grows-refl, Grows-trans, Grows-stands, signals_are_below}
use Rattle.ltl_normal.specs.declared.memo.Forms.{Forms}
use Rattle.ltl_normal.specs.Table.{table}
use Rattle.ltl_normal.specs.NormalTrees.{trees}
use Rattle.ltl_normal.specs.NormalNodes.{Step, go_on, form_in, join_ids, nodes_to}
use Rattle.ltl_normal.specs.declared.simplify.Joint.{Joint}
use Rattle.std.proofs.Common.{get_or-set_same, get_or-set_other, ◌⊎◌}
use Rattle.ltl_normal.specs.Performs.{Performs, IsMemo, recorded, part_bound}
use Rattle.ltl_normal.proofs.Building.{IsMade, BuildsIn, Builds-form_in}
use Rattle.ltl_formula.proofs.NodeEquality.{same_id_of}

-- a part stands below any greater bound, and below its node's bound
pub PartsBelow-mono : (m n : ℕ) (x : Node) → m ≤ n → PartsBelow m x → PartsBelow n x
PartsBelow-mono m n node.True le p = tt
PartsBelow-mono m n node.False le p = tt
PartsBelow-mono m n (node.Signal s) le p = tt
PartsBelow-mono m n (node.Not a) le p = let h : a.0 < m = p in omega arith
PartsBelow-mono m n (node.Next a) le p = let h : a.0 < m = p in omega arith
PartsBelow-mono m n (node.Finally a) le p = let h : a.0 < m = p in omega arith
PartsBelow-mono m n (node.Globally a) le p = let h : a.0 < m = p in omega arith
PartsBelow-mono m n (node.And a b) le p = let g : a.0 < m = p.0 in let h : b.0 < m = p.1 in (omega arith, omega arith)
PartsBelow-mono m n (node.Or a b) le p = let g : a.0 < m = p.0 in let h : b.0 < m = p.1 in (omega arith, omega arith)
PartsBelow-mono m n (node.Implies a b) le p = let g : a.0 < m = p.0 in let h : b.0 < m = p.1 in (omega arith, omega arith)
PartsBelow-mono m n (node.Equiv a b) le p = let g : a.0 < m = p.0 in let h : b.0 < m = p.1 in (omega arith, omega arith)
PartsBelow-mono m n (node.Until a b) le p = let g : a.0 < m = p.0 in let h : b.0 < m = p.1 in (omega arith, omega arith)
PartsBelow-mono m n (node.Release a b) le p = let g : a.0 < m = p.0 in let h : b.0 < m = p.1 in (omega arith, omega arith)
PartsBelow-mono m n (node.WeakUntil a b) le p = let g : a.0 < m = p.0 in let h : b.0 < m = p.1 in (omega arith, omega arith)

pub part_bound-le : (n : ℕ) (x : Node) → PartsBelow n x → part_bound x ≤ n
part_bound-le n node.True p = omega arith
part_bound-le n node.False p = omega arith
part_bound-le n (node.Signal s) p = omega arith
part_bound-le n (node.Not a) p = let h : a.0 < n = p in omega arith
part_bound-le n (node.Next a) p = let h : a.0 < n = p in omega arith
part_bound-le n (node.Finally a) p = let h : a.0 < n = p in omega arith
part_bound-le n (node.Globally a) p = let h : a.0 < n = p in omega arith
part_bound-le n (node.And a b) p = let g : a.0 < n = p.0 in let h : b.0 < n = p.1 in omega arith
part_bound-le n (node.Or a b) p = let g : a.0 < n = p.0 in let h : b.0 < n = p.1 in omega arith
part_bound-le n (node.Implies a b) p = let g : a.0 < n = p.0 in let h : b.0 < n = p.1 in omega arith
part_bound-le n (node.Equiv a b) p = let g : a.0 < n = p.0 in let h : b.0 < n = p.1 in omega arith
part_bound-le n (node.Until a b) p = let g : a.0 < n = p.0 in let h : b.0 < n = p.1 in omega arith
part_bound-le n (node.Release a b) p = let g : a.0 < n = p.0 in let h : b.0 < n = p.1 in omega arith
part_bound-le n (node.WeakUntil a b) p = let g : a.0 < n = p.0 in let h : b.0 < n = p.1 in omega arith

module _ (most : ℕ) where
  -- where adding has no room the list stays
  added-none : (nodes : List Node) (x : Node) → (added most nodes x).made ≡ None → added most nodes x ≡ record { nodes = nodes; made = None }
  added-none nodes x none = by (position (node_eq x) nodes) none
    where
      by : (o : Option ℕ) → (built_at most o nodes x).made ≡ None → built_at most o nodes x ≡ record { nodes = nodes; made = None }
      by (Some i) e = absurd (none-some (let id : FormulaId = record { 0 = i } in id) (sym e))
      by None e = room (ltb (length nodes) (min most MAX_NODES)) e
        where
          room : (b : Bool) → (cond b (let r : Built = record { nodes = nodes ++ x ∷ []; made = Some (record { 0 = length nodes }) } in r) (let r : Built = record { nodes = nodes; made = None } in r)).made ≡ None
              → cond b (let r : Built = record { nodes = nodes ++ x ∷ []; made = Some (record { 0 = length nodes }) } in r) (let r : Built = record { nodes = nodes; made = None } in r) ≡ record { nodes = nodes; made = None }
          room true e = absurd (none-some (let id : FormulaId = record { 0 = length nodes } in id) (sym e))
          room false e = refl

  -- what `add` says
  pub Performs-add : (x : Node) (old new : List Node) (r : Result FormulaId AddFault)
      → IfOk r (λ id. added most old x ≡ record { nodes = new; made = Some id }) → (r ≡ Err TooManyNodes → (added most old x).made ≡ None) → OnErr r (new ≡ old)
      → IfOk r (λ id. slice_get new id.0 ≡ Some x) → Grows old new → IsNodeList new → Performs (λ ns. added most ns x) old new r
  Performs-add x old new (Ok id) ok too_many err at grows list = record {
    ok = ok;
    too_many = λ e. absurd (let never : ⊥ = cc in never);
    stands = slice_get_within new id.0 x at;
    grows = grows;
    list = list;
  }
  Performs-add x old new (Err fault) ok too_many err at grows list = record {
    ok = tt;
    too_many = λ e. added-none old x (too_many e) ∙ ap (λ ns. let b : Built = record { nodes = ns; made = None } in b) (sym err);
    stands = tt;
    grows = grows;
    list = list;
  }

-- a call took a step where it took one that is the same in this list
pub Performs-like : (step like : Step) (old new : List Node) (r : Result FormulaId AddFault) → step old ≡ like old → Performs like old new r → Performs step old new r
Performs-like step like old new (Ok id) e p = record { ok = e ∙ p.ok; too_many = λ h. e ∙ p.too_many h; stands = p.stands; grows = p.grows; list = p.list }
Performs-like step like old new (Err fault) e p = record { ok = tt; too_many = λ h. e ∙ p.too_many h; stands = tt; grows = p.grows; list = p.list }

-- nothing was to be made
pub Performs-gives : (step : Step) (nodes : List Node) (id : FormulaId) → IsNodeList nodes → IsNodeIn nodes id → step nodes ≡ record { nodes = nodes; made = Some id } → Performs step nodes nodes (Ok id)
Performs-gives step nodes id list h e = record { ok = e; too_many = λ never. absurd (let no : ⊥ = cc in no); stands = h; grows = Grows-refl nodes; list = list }

-- one step after another
pub Performs-go_on : (a : Step) (b : FormulaId → Step) (old mid new : List Node) (x : FormulaId) (r : Result FormulaId AddFault)
    → Performs a old mid (Ok x) → Performs (b x) mid new r → Performs (λ ns. go_on (a ns) b) old new r
Performs-go_on a b old mid new x r first second =
    let e : go_on (a old) b ≡ b x mid = ap (λ built. go_on built b) first.ok in
    by r second e
  where
    by : (r : Result FormulaId AddFault) → Performs (b x) mid new r → go_on (a old) b ≡ b x mid → Performs (λ ns. go_on (a ns) b) old new r
    by (Ok id) second e = record { ok = e ∙ second.ok; too_many = λ h. e ∙ second.too_many h; stands = second.stands; grows = Grows-trans old mid new first.grows second.grows; list = second.list }
    by (Err fault) second e = record { ok = tt; too_many = λ h. e ∙ second.too_many h; stands = tt; grows = Grows-trans old mid new first.grows second.grows; list = second.list }

pub Performs-stops : (a : Step) (b : FormulaId → Step) (old new : List Node) (fault : AddFault) → Performs a old new (Err fault) → Performs (λ ns. go_on (a ns) b) old new (Err fault)
Performs-stops a b old new fault first = record {
  ok = tt;
  too_many = λ h. ap (λ built. go_on built b) (first.too_many h);
  stands = tt;
  grows = first.grows;
  list = first.list;
}

module _ (most : ℕ) where
  -- a form that was built is found again in every longer list
  pub form-again : (keep : Bool) (place id : FormulaId) (old mid new : List Node) → IsNodeList old → IsNodeIn old place → form_in most keep (tree_at old place) old ≡ record { nodes = mid; made = Some id }
      → IsNodeList new → Grows mid new → form_in most keep (tree_at new place) new ≡ record { nodes = new; made = Some id }
  form-again keep place id old mid new list h is fits grows =
      let builds : BuildsIn (table trees keep (tree_at old place)) (form_in most keep (tree_at old place)) old =
      Builds-form_in most keep (tree_at old place) (signals_are_below old place list h) old list in
      let made : IsMade (table trees keep (tree_at old place)) (form_in most keep (tree_at old place)) (form_in most keep (tree_at old place) old).nodes id = builds.made id (ap (λ b. b.made) is) in
      let to_mid : Grows old mid = subst (λ b. Grows old b.nodes) is builds.grows in
      ap (λ t. form_in most keep t new) (tree_at-grown old new place (Grows-trans old mid new to_mid grows) h)
      ∙ made.again new fits (subst (λ b. Grows b.nodes new) (sym is) grows)

  pub IsMemo-grows : (forms : List Forms) (old new : List Node) → IsNodeList old → IsNodeList new → Grows old new → IsMemo most forms old → IsMemo most forms new
  IsMemo-grows forms old new list fits grows memo = record {
    found = λ keep place id e.
        let f = memo.found keep place id e in
        (Grows-stands old new place grows f.0, form-again keep place id old old new list f.0 f.1 fits grows);
  }

  -- what the table of an empty memo has
  pub IsMemo-none : (forms : List Forms) (nodes : List Node) → ((keep : Bool) (i : ℕ) → recorded forms keep i ≡ None) → IsMemo most forms nodes
  IsMemo-none forms nodes none = record { found = λ keep place id e. absurd (none-some id (sym (none keep place.0) ∙ e)) }

  -- the tree that a form's id has
  pub form-tree : (keep : Bool) (place id : FormulaId) (old new : List Node) → IsNodeList old → IsNodeIn old place → form_in most keep (tree_at old place) old ≡ record { nodes = new; made = Some id }
      → tree_at new id ≡ table trees keep (tree_at old place)
  form-tree keep place id old new list h is =
      let builds : BuildsIn (table trees keep (tree_at old place)) (form_in most keep (tree_at old place)) old =
      Builds-form_in most keep (tree_at old place) (signals_are_below old place list h) old list in
      let made : IsMade (table trees keep (tree_at old place)) (form_in most keep (tree_at old place)) (form_in most keep (tree_at old place) old).nodes id = builds.made id (ap (λ b. b.made) is) in
      ap (λ b. tree_at b.nodes id) (sym is) ∙ made.tree

  pub form-stands : (keep : Bool) (place id : FormulaId) (old new : List Node) → IsNodeList old → IsNodeIn old place → form_in most keep (tree_at old place) old ≡ record { nodes = new; made = Some id }
      → IsNodeIn new id
  form-stands keep place id old new list h is =
      let builds : BuildsIn (table trees keep (tree_at old place)) (form_in most keep (tree_at old place)) old =
      Builds-form_in most keep (tree_at old place) (signals_are_below old place list h) old list in
      let made : IsMade (table trees keep (tree_at old place)) (form_in most keep (tree_at old place)) (form_in most keep (tree_at old place) old).nodes id = builds.made id (ap (λ b. b.made) is) in
      subst (λ b. IsNodeIn b.nodes id) is made.stands

  -- a memo serves after a call that doesn't touch it
  pub memo-kept : (forms : List Forms) (step : Step) (old new : List Node) (r : Result FormulaId AddFault) → IsNodeList old → IsMemo most forms old → Performs step old new r → OnOk r (IsMemo most forms new)
  memo-kept forms step old new (Ok id) list memo p = IsMemo-grows forms old new list p.list p.grows memo
  memo-kept forms step old new (Err fault) list memo p = tt

  -- two steps and a join, and the exit where the second fails
  pub Performs-join : (joint : Joint) (a b : Step) (old m1 m2 new : List Node) (x y : FormulaId) (r : Result FormulaId AddFault)
      → Performs a old m1 (Ok x) → Performs b m1 m2 (Ok y) → Performs (join_ids most joint x y) m2 new r → Performs ((nodes_to most).join joint a b) old new r
  Performs-join joint a b old m1 m2 new x y r first second join =
      Performs-go_on a (λ x later. go_on (b later) (join_ids most joint x)) old m1 new x r first (Performs-go_on b (join_ids most joint x) m1 m2 new y r second join)

  pub Performs-join-fails : (joint : Joint) (a b : Step) (old m1 new : List Node) (x : FormulaId) (fault : AddFault)
      → Performs a old m1 (Ok x) → Performs b m1 new (Err fault) → Performs ((nodes_to most).join joint a b) old new (Err fault)
  Performs-join-fails joint a b old m1 new x fault first second =
      Performs-go_on a (λ x later. go_on (b later) (join_ids most joint x)) old m1 new x (Err fault) first (Performs-stops b (join_ids most joint x) m1 new fault second)

-- a later step speaks of the formulas that the ids had before
pub moved : (step : Tree → Tree → Step) (p q : FormulaId) (old mid new : List Node) (r : Result FormulaId AddFault) → Grows old mid → IsNodeIn old p → IsNodeIn old q
    → Performs (step (tree_at mid p) (tree_at mid q)) mid new r → Performs (step (tree_at old p) (tree_at old q)) mid new r
moved step p q old mid new r grows hp hq performs =
    subst (λ t. Performs (step t (tree_at old q)) mid new r) (tree_at-grown old mid p grows hp)
    (subst (λ t. Performs (step (tree_at mid p) t) mid new r) (tree_at-grown old mid q grows hq) performs)

module _ (most : ℕ) where
  -- a form that is kept is what the step gives
  pub Performs-found : (forms : List Forms) (keep : Bool) (place id : FormulaId) (nodes : List Node) → IsNodeList nodes → IsMemo most forms nodes → recorded forms keep place.0 ≡ Some id
      → Performs (form_in most keep (tree_at nodes place)) nodes nodes (Ok id)
  Performs-found forms keep place id nodes list memo e =
      let f = memo.found keep place id e in
      Performs-gives (form_in most keep (tree_at nodes place)) nodes id list (form-stands most keep place id nodes nodes list f.0 f.1) f.1

  -- what the result is
  module _ (keep : Bool) (f : FormulaId) (old new : List Node) (list : IsNodeList old) (h : IsNodeIn old f) where
    pub result-tree : (r : Result FormulaId AddFault) → Performs (form_in most keep (tree_at old f)) old new r → IfOk r (λ id. tree_at new id ≡ table trees keep (tree_at old f))
    result-tree (Ok id) p = form-tree most keep f id old new list h p.ok
    result-tree (Err fault) p = tt

    pub result-is : (P : Tree → Type 0) → P (table trees keep (tree_at old f)) → (r : Result FormulaId AddFault) → Performs (form_in most keep (tree_at old f)) old new r → IfOk r (λ id. P (tree_at new id))
    result-is P holds_there (Ok id) p = subst P (sym (form-tree most keep f id old new list h p.ok)) holds_there
    result-is P holds_there (Err fault) p = tt

-- a memo with one more form
recorded-set : (forms : List Forms) (i : ℕ) (e : Forms) (keep : Bool) (k : ℕ) → i < length forms
    → ((k ≡ i) × (recorded (slice_set forms i e) keep k ≡ (if keep then e.kept else e.opposed))) ⊎ (recorded (slice_set forms i e) keep k ≡ recorded forms keep k)
recorded-set forms i e keep k within =
    let none : Forms = record { kept = None; opposed = None } in
    elim (cases_eq k i) [
      | inl at ↦ inl (at, ap (λ x. if keep then x.kept else x.opposed) (ap (λ n. get_or (slice_set forms i e) n none) at ∙ get_or-set_same forms i e none within))
      | inr other ↦ inr (ap (λ x. if keep then x.kept else x.opposed) (get_or-set_other forms i k e none other))
    ]

kept-with : (old : Forms) (put keep : Bool) (form id : FormulaId)
    → (if keep then (if put then record old { kept = Some form } else record old { opposed = Some form }).kept else (if put then record old { kept = Some form } else record old { opposed = Some form }).opposed) ≡ Some id
    → ((keep ≡ put) × (form ≡ id)) ⊎ ((if keep then old.kept else old.opposed) ≡ Some id)
kept-with old true true form id e = inl (refl, same_Some form id e)
kept-with old true false form id e = inr e
kept-with old false true form id e = inr e
kept-with old false false form id e = inl (refl, same_Some form id e)

module _ (most : ℕ) where
  pub IsMemo-with : (forms : List Forms) (place form : FormulaId) (put : Bool) (old nodes : List Node) → IsNodeList old → IsNodeIn old place → IsNodeList nodes
      → form_in most put (tree_at old place) old ≡ record { nodes = nodes; made = Some form } → IsMemo most forms nodes → place.0 < length forms
      → (e : Forms) → e ≡ (let was : Forms = get_or forms place.0 (record { kept = None; opposed = None }) in if put then record was { kept = Some form } else record was { opposed = Some form })
      → IsMemo most (slice_set forms place.0 e) nodes
  IsMemo-with forms place form put old nodes list h fits is memo within e e_is = record {
    found = λ keep at id recorded_is.
        elim (recorded-set forms place.0 e keep at.0 within) [
          | inr before ↦ memo.found keep at id (sym before ∙ recorded_is)
          | inl (same, here) ↦
              let was : Forms = get_or forms place.0 (record { kept = None; opposed = None }) in
              elim (kept-with was put keep form id (ap (λ x. if keep then x.kept else x.opposed) (sym e_is) ∙ sym here ∙ recorded_is)) [
                | inl (one_way, one_form) ↦
                    let grown : Grows old nodes = performs_grows is in
                    let now_there : IsNodeIn nodes place = Grows-stands old nodes place grown h in
                    let again : form_in most put (tree_at nodes place) nodes ≡ record { nodes = nodes; made = Some form } = form-again most put place form old nodes nodes list h is fits (Grows-refl nodes) in
                    let P : FormulaId → Bool → FormulaId → Type 0 = λ p k i. IsNodeIn nodes p × (form_in most k (tree_at nodes p) nodes ≡ record { nodes = nodes; made = Some i }) in
                    subst (λ p. P p keep id) (same_id_of place at (sym same)) (subst (λ k. P place k id) (sym one_way) (subst (λ i. P place put i) one_form (now_there, again)))
                | inr before ↦ memo.found keep at id (subst (λ n. recorded forms keep n ≡ Some id) (sym same) before)
              ]
        ];
  }
    where
      performs_grows : form_in most put (tree_at old place) old ≡ record { nodes = nodes; made = Some form } → Grows old nodes
      performs_grows is = subst (λ b. Grows old b.nodes) is (Builds-form_in most put (tree_at old place) (signals_are_below old place list h) old list).grows

-- a table of copies of one entry without forms has none
pub recorded-none : (n : ℕ) (keep : Bool) (i : ℕ) → recorded (replicate n (record { kept = None; opposed = None })) keep i ≡ None
recorded-none n keep i =
    let none : Forms = record { kept = None; opposed = None } in
    let e : get_or (replicate n none) i none ≡ none =
    elim (cases_lt i n) [ inl within ↦ get_or-replicate n i none none within | inr past ↦ get_or_past (replicate n none) i none (rw (length-replicate n none) past) ] in
    ap (λ x. if keep then x.kept else x.opposed) e ∙ both keep
  where
    both : (keep : Bool) → (if keep then (let none : Forms = record { kept = None; opposed = None } in none).kept else (let none : Forms = record { kept = None; opposed = None } in none).opposed) ≡ None
    both true = refl
    both false = refl
