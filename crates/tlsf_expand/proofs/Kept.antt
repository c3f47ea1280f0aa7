-- Outcomes that keep the list of formulas: it only grows, and stays a list of formulas over signals below a number.
use Rattle.std.proofs.Common.{◌≡◌, ℕ, ◌<◌, Bool, true, false, ltb, cond, List, [], ◌∷◌, ◌++◌, length, Option, None, Some, refl, subst, arith}
use Rattle.std.specs.Prelude.{min, position, slice_get, ◌&&◌}
use Rattle.std.proofs.lemmas.Bool.{and_parts, ltb-true}
use Rattle.std.proofs.lemmas.List.{append-nil}
use Rattle.std.proofs.lemmas.Option.{slice_get_within}
use Rattle.ltl_formula.specs.declared.nodes.FormulaId.{FormulaId}
use Rattle.ltl_formula.specs.declared.nodes.Node.{Node}
use Rattle.ltl_formula.specs.declared.nodes.Node.TheVariants as node
use Rattle.ltl_formula.specs.declared.nodes.TheConstants.{MAX_NODES, MAX_SIGNALS}
use Rattle.ltl_formula.specs.Nodes.{tree_of, trees_of, tree_at, PartsBelow, SignalBelow, IsNodeList, IsNodeIn, Grows}
use Rattle.ltl_formula.specs.ListSignals.{HasSignalsBelow}
use Rattle.ltl_formula.specs.Added.{node_eq, Built, built_at, added}
use Rattle.ltl_formula.proofs.ListSignals.{HasSignalsBelow-added, HasSignalsBelow-none}
use Rattle.ltl_formula.proofs.Lists.{Grows-refl, Grows-trans, Grows-added, added-stands, room_below, IsNodeList-append, tree_at-slice_get}
use Rattle.spec_faults.specs.declared.code.SpecCode.{SpecCode}
use Rattle.spec_faults.specs.declared.code.SpecCode.TheVariants.{TooManyNodes, WrongSort}
use Rattle.tlsf_values.specs.declared.work.Work.{Work}
use Rattle.tlsf_values.specs.Outcomes.{Outcome, gives, fails, go_on, Checked, fine, faulty, checked, choose, stands, may_stand, made_from, made}

-- a list of formulas over signals below n
pub record IsGood (n : ℕ) (nodes : List Node) : Type 0 where
  pub list : IsNodeList nodes
  pub below : HasSignalsBelow n nodes

-- ---- outcomes

-- the outcome gives such a value with such a list, or is refused so
pub data Gives {A : Type 0} (R : SpecCode → ℕ → Type 0) (Q : A → List Node → Type 0) : Outcome A → Type 0 where
  gives_such : (a : A) (work : Work) → Q a work.formulas → Gives R Q (gives a work)
  refused_so : (code : SpecCode) (place : ℕ) → R code place → Gives R Q (fails code place)

-- refused for whatever reason
abbrev pub Anyhow : SpecCode → ℕ → Type 0
Anyhow code place = Unit {0}

pub refuses : {A : Type 0} {Q : A → List Node → Type 0} (code : SpecCode) (place : ℕ) → Gives Anyhow Q (fails code place)
refuses code place = refused_so code place tt

-- where what is given is known too
pub gives_go_on_is : {A B : Type 0} {R : SpecCode → ℕ → Type 0} {P : A → List Node → Type 0} (o : Outcome A) (f : A → Work → Outcome B) (Q : B → List Node → Type 0)
    → Gives R P o → ((a : A) (work : Work) → o ≡ gives a work → P a work.formulas → Gives R Q (f a work)) → Gives R Q (go_on o f)
gives_go_on_is _ f Q (gives_such a work p) next = next a work refl p
gives_go_on_is _ f Q (refused_so code place r) next = refused_so code place r

pub gives_go_on : {A B : Type 0} {R : SpecCode → ℕ → Type 0} {P : A → List Node → Type 0} {o : Outcome A} (f : A → Work → Outcome B) (Q : B → List Node → Type 0)
    → Gives R P o → ((a : A) (work : Work) → P a work.formulas → Gives R Q (f a work)) → Gives R Q (go_on o f)
gives_go_on {o = o} f Q h next = gives_go_on_is o f Q h (λ a work e p. next a work p)

gives_is : {A : Type 0} {R : SpecCode → ℕ → Type 0} {Q : A → List Node → Type 0} (a : A) (work : Work) → Gives R Q (gives a work) → Q a work.formulas
gives_is _ _ (gives_such a work q) = q

pub given : {A : Type 0} {R : SpecCode → ℕ → Type 0} (Q : A → List Node → Type 0) (o : Outcome A) (a : A) (work : Work) → Gives R Q o → o ≡ gives a work → Q a work.formulas
given {R = R} Q o a work h e = gives_is a work (subst (Gives R Q) e h)

-- ---- lists that grow

-- the list has grown from this one, and the value is as stated of it
pub record IsKept {A : Type 0} (top : ℕ) (old : List Node) (Q : A → List Node → Type 0) (a : A) (nodes : List Node) : Type 0 where
  pub good : IsGood top nodes
  pub grows : Grows old nodes
  pub is : Q a nodes

abbrev pub Keeps : {A : Type 0} → ℕ → List Node → (A → List Node → Type 0) → Outcome A → Type 0
Keeps top old Q o = Gives Anyhow (IsKept top old Q) o

module _ {A : Type 0} {R : SpecCode → ℕ → Type 0} {top : ℕ} where
  pub keeps : {old : List Node} {Q : A → List Node → Type 0} (a : A) (work : Work) → IsGood top work.formulas → Grows old work.formulas → Q a work.formulas → Gives R (IsKept top old Q) (gives a work)
  keeps a work good more q = gives_such a work (record { good = good; grows = more; is = q })

  -- the value is given as it is
  pub keeps_given : (Q : A → List Node → Type 0) (a : A) (work : Work) → IsGood top work.formulas → Q a work.formulas → Gives R (IsKept top work.formulas Q) (gives a work)
  keeps_given Q a work good q = keeps a work good (Grows-refl work.formulas) q

  pub keeps_map : {old : List Node} {P : A → List Node → Type 0} {o : Outcome A} (Q : A → List Node → Type 0)
      → ((a : A) (nodes : List Node) → Grows old nodes → P a nodes → Q a nodes) → Gives R (IsKept top old P) o → Gives R (IsKept top old Q) o
  keeps_map Q f (gives_such a work k) = keeps a work k.good k.grows (f a work.formulas k.grows k.is)
  keeps_map Q f (refused_so code place r) = refused_so code place r

  keeps_from : {old mid : List Node} {Q : A → List Node → Type 0} {o : Outcome A} → Grows old mid → Gives R (IsKept top mid Q) o → Gives R (IsKept top old Q) o
  keeps_from {old = old} {mid = mid} grows (gives_such a work k) = keeps a work k.good (Grows-trans old mid work.formulas grows k.grows) k.is
  keeps_from grows (refused_so code place r) = refused_so code place r

pub keeps_go_on : {A B : Type 0} {R : SpecCode → ℕ → Type 0} {top : ℕ} {old : List Node} {P : A → List Node → Type 0} {o : Outcome A} (f : A → Work → Outcome B) (Q : B → List Node → Type 0)
    → Gives R (IsKept top old P) o → ((a : A) (work : Work) → IsGood top work.formulas → Grows old work.formulas → P a work.formulas → Gives R (IsKept top work.formulas Q) (f a work))
    → Gives R (IsKept top old Q) (go_on o f)
keeps_go_on f Q h next = gives_go_on f _ h (λ a work k. keeps_from k.grows (next a work k.good k.grows k.is))

pub keeps_checked : {A B : Type 0} {top : ℕ} {old : List Node} (c : Checked A) (f : A → Work → Outcome B) (work : Work) (Q : B → List Node → Type 0)
    → ((a : A) → c ≡ fine a → Keeps top old Q (f a work)) → Keeps top old Q (checked c f work)
keeps_checked (fine a) f work Q next = next a refl
keeps_checked (faulty code place) f work Q next = refuses code place

pub keeps_choose : {B : Type 0} {R : SpecCode → ℕ → Type 0} {top : ℕ} {old : List Node} (b : Bool) (f g : Work → Outcome B) (work : Work) (Q : B → List Node → Type 0)
    → (b ≡ true → Gives R (IsKept top old Q) (f work)) → (b ≡ false → Gives R (IsKept top old Q) (g work)) → Gives R (IsKept top old Q) (choose b f g work)
keeps_choose true f g work Q yes_ no_ = yes_ refl
keeps_choose false f g work Q yes_ no_ = no_ refl

-- ---- a node that is made

-- the id stands in the list, for this node
pub record Makes (node : Node) (id : FormulaId) (nodes : List Node) : Type 0 where
  pub stands : IsNodeIn nodes id
  pub tree : tree_at nodes id ≡ tree_of (trees_of nodes) node

stands-below : (nodes : List Node) (id : FormulaId) → stands nodes id ≡ true → id.0 < length nodes
stands-below nodes id h = ltb-true id.0 (length nodes) h

both-below : (nodes : List Node) (a b : FormulaId) → (stands nodes a && stands nodes b) ≡ true → (a.0 < length nodes) × (b.0 < length nodes)
both-below nodes a b h = let p = and_parts (stands nodes a) (stands nodes b) h in (stands-below nodes a p.0, stands-below nodes b p.1)

parts-stand : (nodes : List Node) (n : Node) → may_stand nodes n ≡ true → PartsBelow (length nodes) n
parts-stand nodes node.True h = tt
parts-stand nodes node.False h = tt
parts-stand nodes (node.Signal s) h = tt
parts-stand nodes (node.Not a) h = stands-below nodes a h
parts-stand nodes (node.Next a) h = stands-below nodes a h
parts-stand nodes (node.Finally a) h = stands-below nodes a h
parts-stand nodes (node.Globally a) h = stands-below nodes a h
parts-stand nodes (node.And a b) h = both-below nodes a b h
parts-stand nodes (node.Or a b) h = both-below nodes a b h
parts-stand nodes (node.Implies a b) h = both-below nodes a b h
parts-stand nodes (node.Equiv a b) h = both-below nodes a b h
parts-stand nodes (node.Until a b) h = both-below nodes a b h
parts-stand nodes (node.Release a b) h = both-below nodes a b h
parts-stand nodes (node.WeakUntil a b) h = both-below nodes a b h

signal-below : (nodes : List Node) (n : Node) → may_stand nodes n ≡ true → SignalBelow MAX_SIGNALS n
signal-below nodes (node.Signal s) h = ltb-true s MAX_SIGNALS h
signal-below nodes node.True h = tt
signal-below nodes node.False h = tt
signal-below nodes (node.Not a) h = tt
signal-below nodes (node.Next a) h = tt
signal-below nodes (node.Finally a) h = tt
signal-below nodes (node.Globally a) h = tt
signal-below nodes (node.And a b) h = tt
signal-below nodes (node.Or a b) h = tt
signal-below nodes (node.Implies a b) h = tt
signal-below nodes (node.Equiv a b) h = tt
signal-below nodes (node.Until a b) h = tt
signal-below nodes (node.Release a b) h = tt
signal-below nodes (node.WeakUntil a b) h = tt

-- a list after a node was added is a list of formulas
list-added : (most : ℕ) (nodes : List Node) (n : Node) → IsNodeList nodes → may_stand nodes n ≡ true → IsNodeList (added most nodes n).nodes
list-added most nodes n list may = by (position (node_eq n) nodes) refl
  where
    room : (b : Bool) → position (node_eq n) nodes ≡ None → ltb (length nodes) (min most MAX_NODES) ≡ b
        → IsNodeList (cond b (let x : Built = record { nodes = nodes ++ n ∷ []; made = Some (record { 0 = length nodes }) } in x) (let x : Built = record { nodes = nodes; made = None } in x)).nodes
    room true absent e = IsNodeList-append nodes n list (parts-stand nodes n may) (signal-below nodes n may) absent (room_below most (length nodes) (ltb-true (length nodes) (min most MAX_NODES) e))
    room false absent e = list

    by : (o : Option ℕ) → position (node_eq n) nodes ≡ o → IsNodeList (built_at most o nodes n).nodes
    by (Some i) e = list
    by None e = room (ltb (length nodes) (min most MAX_NODES)) e refl

makes-added : (most : ℕ) (nodes : List Node) (n : Node) (id : FormulaId) → IsNodeList (added most nodes n).nodes → (added most nodes n).made ≡ Some id → Makes n id (added most nodes n).nodes
makes-added most nodes n id list made =
    let at : slice_get (added most nodes n).nodes id.0 ≡ Some n = subst (λ xs. slice_get xs id.0 ≡ Some n) (append-nil (added most nodes n).nodes) (added-stands most nodes n [] id made) in
    record { stands = slice_get_within (added most nodes n).nodes id.0 n at; tree = tree_at-slice_get (added most nodes n).nodes n id.0 list at }

-- a node over parts that don't all stand has a wrong sort, and else only room may be wanting
pub gives_made : {R : SpecCode → ℕ → Type 0} {top : ℕ} (place : ℕ) (n : Node) (work : Work) → IsGood top work.formulas → SignalBelow top n
    → (may_stand work.formulas n ≡ false → R WrongSort place) → R TooManyNodes place → Gives R (IsKept top work.formulas (Makes n)) (made place n work)
gives_made {R = R} {top = top} place n work good small wrong full =
    keeps_choose (may_stand work.formulas n) _ _ work (Makes n) (λ may. by may (added work.limits.nodes work.formulas n).made refl) (λ not_so. refused_so _ _ (wrong not_so))
  where
    by : may_stand work.formulas n ≡ true → (o : Option FormulaId) → (added work.limits.nodes work.formulas n).made ≡ o → Gives R (IsKept top work.formulas (Makes n)) (made_from place work (added work.limits.nodes work.formulas n) o)
    by may (Some id) e =
        let list = list-added work.limits.nodes work.formulas n good.list may in
        keeps id (record work { formulas = (added work.limits.nodes work.formulas n).nodes }) (record { list = list; below = HasSignalsBelow-added work.limits.nodes top work.formulas n good.below small })
        (Grows-added work.limits.nodes work.formulas n) (makes-added work.limits.nodes work.formulas n id list e)
    by may None e = refused_so _ _ full

pub keeps_made : {top : ℕ} (place : ℕ) (n : Node) (work : Work) → IsGood top work.formulas → SignalBelow top n → Keeps top work.formulas (Makes n) (made place n work)
keeps_made place n work good small = gives_made place n work good small (λ _. tt) tt

pub no_nodes : (top : ℕ) → IsGood top []
no_nodes top = record {
  list = record { parts_first = λ i. tt; signals = λ i. tt; different = λ i j hi hj e. absurd (omega arith); most = omega arith };
  below = HasSignalsBelow-none top;
}
