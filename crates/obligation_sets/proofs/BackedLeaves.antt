use Rattle.std.proofs.Common.{◌≡◌, ℕ, zero, suc, ◌<◌, ◌⊎◌, inl, inr, Bool, true, false, List, [], ◌∷◌, None, Some, length, refl, sym, ◌∙◌, ap, subst, arith}
use Rattle.std.specs.Prelude.{Contains, IsTrue}
use Rattle.std.proofs.lemmas.Bool.{cond-true, cond-false}
use Rattle.std.proofs.lemmas.List.Elements.{Contains-append_cases, Contains-append_right}
use Rattle.std_lemmas.proofs.Lists.{Contains-cases, Contains-head, Contains-later, Contains-none}
use Rattle.letters_and_lassos.specs.Signals.{has}
use Rattle.letters_and_lassos.specs.declared.cubes.Cube.{Cube}
use Rattle.ltl_formula.specs.declared.nodes.FormulaId.{FormulaId}
use Rattle.ltl_formula.specs.declared.nodes.Node.{Node}
use Rattle.ltl_formula.specs.declared.nodes.Node.TheVariants.{True, False, Signal, Not, Next, Finally, Globally, And, Or, Implies, Equiv, Until, Release, WeakUntil}
use Rattle.ltl_formula.specs.Nodes.{IsNodeList, PartsBelow, node_at}
use Rattle.obligation_sets.specs.declared.branches.Step.{Step}
use Rattle.obligation_sets.specs.declared.branches.Step.TheVariants.{Leaf, Dead, On, Split}
use Rattle.obligation_sets.specs.Apart.{added-has}
use Rattle.obligation_sets.specs.Branch.{Branch}
use Rattle.obligation_sets.specs.Covers.{leaves_below, leaves_within}
use Rattle.obligation_sets.specs.Cubes.{forbidding_at, wanting_at}
use Rattle.obligation_sets.specs.Ids.{has_id}
use Rattle.obligation_sets.specs.OpenWork.{open_work}
use Rattle.obligation_sets.specs.Steps.{HasPlaces, expanding, in_front, joining, leaving, opposing, postponing, step, step_on, taking}
use Rattle.obligation_sets.proofs.Flags.{with_id-cases, with_id-here, with_id-keeps}
use Rattle.obligation_sets.proofs.Walks.{IsFirstOpen, PartsBelow-up, Stepped, first_open, step_stepped, taking_places}

-- why a formula that was taken off the work list holds: by its parts, the cube, and what is left to the next position
abbrev pub Opposed : Cube → Node → Type 0
Opposed cube (Signal k) = IsTrue (has cube.not k)
Opposed cube _ = ⊥

abbrev pub Backed : List Node → (FormulaId → Type 0) → Cube → (FormulaId → Type 0) → (FormulaId → Type 0) → FormulaId → Node → Type 0
Backed ns D cube next postponed f True = Unit {0}
Backed ns D cube next postponed f False = ⊥
Backed ns D cube next postponed f (Signal k) = IsTrue (has cube.must k)
Backed ns D cube next postponed f (Not g) = Opposed cube (node_at ns g.0)
Backed ns D cube next postponed f (Next g) = next g
Backed ns D cube next postponed f (Finally g) = ⊥
Backed ns D cube next postponed f (Globally g) = ⊥
Backed ns D cube next postponed f (And g h) = D g × D h
Backed ns D cube next postponed f (Or g h) = D g ⊎ D h
Backed ns D cube next postponed f (Implies g h) = ⊥
Backed ns D cube next postponed f (Equiv g h) = ⊥
Backed ns D cube next postponed f (Until g h) = D h ⊎ (D g × next f × postponed f)
Backed ns D cube next postponed f (Release g h) = D h × (D g ⊎ next f)
Backed ns D cube next postponed f (WeakUntil g h) = ⊥

-- more parts, signals and formulas left over back a formula as well
pub record More (D E : FormulaId → Type 0) (c d : Cube) (n m p q : FormulaId → Type 0) : Type 0 where
  pub parts : (f : FormulaId) → D f → E f
  pub must : (k : ℕ) → IsTrue (has c.must k) → IsTrue (has d.must k)
  pub none_of : (k : ℕ) → IsTrue (has c.not k) → IsTrue (has d.not k)
  pub next : (f : FormulaId) → n f → m f
  pub postponed : (f : FormulaId) → p f → q f

module _ (ns : List Node) (D E : FormulaId → Type 0) (c d : Cube) (n m p q : FormulaId → Type 0) (more : More D E c d n m p q) where
  opposed_more : (node : Node) → Opposed c node → Opposed d node
  opposed_more (Signal k) h = more.none_of k h
  opposed_more True h = h
  opposed_more False h = h
  opposed_more (Not x) h = h
  opposed_more (Next x) h = h
  opposed_more (Finally x) h = h
  opposed_more (Globally x) h = h
  opposed_more (And x y) h = h
  opposed_more (Or x y) h = h
  opposed_more (Implies x y) h = h
  opposed_more (Equiv x y) h = h
  opposed_more (Until x y) h = h
  opposed_more (Release x y) h = h
  opposed_more (WeakUntil x y) h = h

  pub backed_more : (f : FormulaId) (node : Node) → Backed ns D c n p f node → Backed ns E d m q f node
  backed_more f True h = h
  backed_more f False h = h
  backed_more f (Signal k) h = more.must k h
  backed_more f (Not g) h = opposed_more (node_at ns g.0) h
  backed_more f (Next g) h = more.next g h
  backed_more f (Finally g) h = h
  backed_more f (Globally g) h = h
  backed_more f (And g k) h = (more.parts g h.0, more.parts k h.1)
  backed_more f (Or g k) h = elim h [ inl x ↦ inl (more.parts g x) | inr x ↦ inr (more.parts k x) ]
  backed_more f (Implies g k) h = h
  backed_more f (Equiv g k) h = h
  backed_more f (Until g k) h = elim h [ inl x ↦ inl (more.parts k x) | inr x ↦ inr (more.parts g x.0, more.next f x.1, more.postponed f x.2) ]
  backed_more f (Release g k) h = (more.parts k h.0, elim h.1 [ inl x ↦ inl (more.parts g x) | inr x ↦ inr (more.next f x) ])
  backed_more f (WeakUntil g k) h = h

-- the branch has the formula on its work list, or took it off
abbrev pub Seen : Branch → FormulaId → Type 0
Seen b f = (has_id b.done f ≡ true) ⊎ Contains b.work f

abbrev pub InNext : Branch → FormulaId → Type 0
InNext b f = has_id b.next f ≡ true

abbrev pub InPostponed : Branch → FormulaId → Type 0
InPostponed b f = has_id b.postponed f ≡ true

abbrev pub Grown : Branch → Branch → Type 0
Grown b c = More (Seen b) (Seen c) b.cube c.cube (InNext b) (InNext c) (InPostponed b) (InPostponed c)

pub Grown-trans : (b c d : Branch) → Grown b c → Grown c d → Grown b d
Grown-trans b c d g h = record {
  parts = λ f x. h.parts f (g.parts f x);
  must = λ k x. h.must k (g.must k x);
  none_of = λ k x. h.none_of k (g.none_of k x);
  next = λ f x. h.next f (g.next f x);
  postponed = λ f x. h.postponed f (g.postponed f x);
}

module _ (ns : List Node) where
  abbrev pub BackedIn : Branch → FormulaId → Type 0
  BackedIn b f = Backed ns (Seen b) b.cube (InNext b) (InPostponed b) f (node_at ns f.0)

  -- each formula that was taken off the work list is backed
  abbrev pub IsBacked : Branch → Type 0
  IsBacked b = (f : FormulaId) → has_id b.done f ≡ true → BackedIn b f

  -- what comes of taking a formula backs it
  pub record BacksIt (b : Branch) (f : FormulaId) (node : Node) (c : Branch) : Type 0 where
    pub grown : Grown b c
    pub backs : Backed ns (Seen c) c.cube (InNext c) (InPostponed c) f node
    pub same : c.done ≡ b.done

  abbrev pub StepBacks : Branch → FormulaId → Node → Step → Type 0
  StepBacks b f node (Leaf c) = ⊥
  StepBacks b f node Dead = Unit {0}
  StepBacks b f node (On c) = BacksIt b f node c
  StepBacks b f node (Split c d) = BacksIt b f node c × BacksIt b f node d

  front_grown : (b : Branch) (fs : List FormulaId) → Grown b (in_front fs b)
  front_grown b fs = record {
    parts = λ f x. elim x [ inl done ↦ inl done | inr work ↦ inr (Contains-append_right fs b.work f work) ];
    must = λ k x. x;
    none_of = λ k x. x;
    next = λ f x. x;
    postponed = λ f x. x;
  }

  leaving_grown : (b : Branch) (g : FormulaId) → Grown b (leaving g b)
  leaving_grown b g = record { parts = λ f x. x; must = λ k x. x; none_of = λ k x. x; next = λ f x. with_id-keeps b.next g f x; postponed = λ f x. x }

  postponing_grown : (b : Branch) (g : FormulaId) → Grown b (postponing g b)
  postponing_grown b g = record { parts = λ f x. x; must = λ k x. x; none_of = λ k x. x; next = λ f x. with_id-keeps b.next g f x; postponed = λ f x. with_id-keeps b.postponed g f x }

  wanting_backs : (b : Branch) (f : FormulaId) (k : ℕ) (t : Bool) (e : has b.cube.not k ≡ t) → StepBacks b f (Signal k) (joining b (wanting_at b.cube k t e))
  wanting_backs b f k true e = tt
  wanting_backs b f k false e = record {
    grown = record { parts = λ g x. x; must = λ j x. added-has b.cube.must k j (inl x); none_of = λ j x. x; next = λ g x. x; postponed = λ g x. x };
    backs = added-has b.cube.must k k (inr refl);
    same = refl;
  }

  opposing_backs : (b : Branch) (f g : FormulaId) (k : ℕ) (t : Bool) (e : has b.cube.must k ≡ t) → node_at ns g.0 ≡ Signal k → StepBacks b f (Not g) (joining b (forbidding_at b.cube k t e))
  opposing_backs b f g k true e is = tt
  opposing_backs b f g k false e is = record {
    grown = record { parts = λ g x. x; must = λ j x. x; none_of = λ j x. added-has b.cube.not k j (inl x); next = λ g x. x; postponed = λ g x. x };
    backs = rw is (added-has b.cube.not k k (inr refl));
    same = refl;
  }

  opposing_all : (b : Branch) (f g : FormulaId) (node : Node) → node_at ns g.0 ≡ node → StepBacks b f (Not g) (opposing b node)
  opposing_all b f g (Signal k) is = opposing_backs b f g k (has b.cube.must k) refl is
  opposing_all b f g _ is = tt

  module _ (b : Branch) (places : HasPlaces (length ns) b) (f : FormulaId) (stands : f.0 < length ns) where
    expanding_backs : (node : Node) → PartsBelow (length ns) node → StepBacks b f node (expanding ns b f node)
    expanding_backs True parts = record { grown = front_grown b []; backs = tt; same = refl }
    expanding_backs False parts = tt
    expanding_backs (Signal k) parts = wanting_backs b f k (has b.cube.not k) refl
    expanding_backs (Not g) parts = opposing_all b f g (node_at ns g.0) refl
    expanding_backs (Next g) parts = record { grown = leaving_grown b g; backs = with_id-here b.next g (rw places.next parts); same = refl }
    expanding_backs (Finally g) parts = tt
    expanding_backs (Globally g) parts = tt
    expanding_backs (And g h) parts = record { grown = front_grown b (g ∷ h ∷ []); backs = (inr (Contains-head g (h ∷ b.work)), inr (Contains-later g (h ∷ b.work) h (Contains-head h b.work))); same = refl }
    expanding_backs (Or g h) parts = (record { grown = front_grown b (g ∷ []); backs = inl (inr (Contains-head g b.work)); same = refl }, record { grown = front_grown b (h ∷ []); backs = inr (inr (Contains-head h b.work)); same = refl })
    expanding_backs (Implies g h) parts = tt
    expanding_backs (Equiv g h) parts = tt
    expanding_backs (Until g h) parts = (
      record { grown = front_grown b (h ∷ []); backs = inl (inr (Contains-head h b.work)); same = refl },
      record {
        grown = Grown-trans b (postponing f b) (in_front (g ∷ []) (postponing f b)) (postponing_grown b f) (front_grown (postponing f b) (g ∷ []));
        backs = inr (inr (Contains-head g b.work), with_id-here b.next f (rw places.next stands), with_id-here b.postponed f (rw places.postponed stands));
        same = refl;
      },
    )
    expanding_backs (Release g h) parts = (
      record { grown = front_grown b (g ∷ h ∷ []); backs = (inr (Contains-later g (h ∷ b.work) h (Contains-head h b.work)), inl (inr (Contains-head g (h ∷ b.work)))); same = refl },
      record {
        grown = Grown-trans b (leaving f b) (in_front (h ∷ []) (leaving f b)) (leaving_grown b f) (front_grown (leaving f b) (h ∷ []));
        backs = (inr (Contains-head h b.work), inr (with_id-here b.next f (rw places.next stands)));
        same = refl;
      },
    )
    expanding_backs (WeakUntil g h) parts = tt

-- what the work list has is done, or the first open formula, or behind it
abbrev pub StillSeen : List Bool → List FormulaId → FormulaId → Type 0
StillSeen done [] g = has_id done g ≡ true
StillSeen done (f ∷ rest) g = (has_id done g ≡ true) ⊎ ((g ≡ f) ⊎ Contains rest g)

open_seen : (done : List Bool) (x : FormulaId) (xs : List FormulaId) (t : Bool) → has_id done x ≡ t → ((work : List FormulaId) → open_work done xs ≡ work → (g : FormulaId) → Contains xs g → StillSeen done work g) → (work : List FormulaId) → open_work done (x ∷ xs) ≡ work → (g : FormulaId) → Contains (x ∷ xs) g → StillSeen done work g
open_seen done x xs true e later [] is g c =
    elim (Contains-cases x xs g c) [
      | inl same ↦ rw same at e
      | inr there ↦ later [] (sym (cond-true (has_id done x) (open_work done xs) (x ∷ xs) e) ∙ is) g there
    ]
open_seen done x xs true e later (f ∷ rest) is g c =
    elim (Contains-cases x xs g c) [
      | inl same ↦ inl (rw same at e)
      | inr there ↦ later (f ∷ rest) (sym (cond-true (has_id done x) (open_work done xs) (x ∷ xs) e) ∙ is) g there
    ]
open_seen done x xs false e later [] is g c =
    let wrong : x ∷ xs ≡ [] = sym (cond-false (has_id done x) (open_work done xs) (x ∷ xs) e) ∙ is in
    absurd (let contra : ⊥ = cc in contra)
open_seen done x xs false e later (f ∷ rest) is g c =
    let same : x ∷ xs ≡ f ∷ rest = sym (cond-false (has_id done x) (open_work done xs) (x ∷ xs) e) ∙ is in
    let head : x ≡ f = cc in
    let tail : xs ≡ rest = cc in
    elim (Contains-cases x xs g c) [ inl here ↦ inr (inl (sym here ∙ head)) | inr there ↦ inr (inr (rw tail at there)) ]

still_seen : (done : List Bool) (xs : List FormulaId) (work : List FormulaId) → open_work done xs ≡ work → (g : FormulaId) → Contains xs g → StillSeen done work g
still_seen done [] work is g c = absurd (Contains-none g c)
still_seen done (x ∷ xs) work is g c = open_seen done x xs (has_id done x) refl (still_seen done xs) work is g c

module _ (ns : List Node) (list : IsNodeList ns) where
  -- what is reached from a branch has grown from it, and is backed
  pub record GoesTo (b c : Branch) : Type 0 where
    pub grown : Grown b c
    pub backed : IsBacked ns c

  goes_on : (b : Branch) → IsBacked ns b → (f : FormulaId) (rest : List FormulaId) → Grown b (taking b f rest) → (c : Branch) → BacksIt ns (taking b f rest) f (node_at ns f.0) c → GoesTo b c
  goes_on b backed f rest taken c it =
      let grown : Grown b c = Grown-trans b (taking b f rest) c taken it.grown in
      record {
        grown = grown;
        backed = λ g done.
            elim (with_id-cases b.done f g (sym (ap (λ d. has_id d g) it.same) ∙ done)) [
              | inl same ↦ rw same it.backs
              | inr before ↦ backed_more ns (Seen b) (Seen c) b.cube c.cube (InNext b) (InNext c) (InPostponed b) (InPostponed c) grown g (node_at ns g.0) (backed g before)
            ];
      }

  -- what a step leads to
  abbrev pub StepGoesTo : Branch → Step → Type 0
  StepGoesTo b (Leaf c) = GoesTo b c × (c.work ≡ [])
  StepGoesTo b Dead = Unit {0}
  StepGoesTo b (On c) = GoesTo b c
  StepGoesTo b (Split c d) = GoesTo b c × GoesTo b d

  step_goes : (b : Branch) → IsBacked ns b → (f : FormulaId) (rest : List FormulaId) → Grown b (taking b f rest) → (s : Step) → StepBacks ns (taking b f rest) f (node_at ns f.0) s → StepGoesTo b s
  step_goes b backed f rest taken (Leaf c) h = absurd h
  step_goes b backed f rest taken Dead h = tt
  step_goes b backed f rest taken (On c) h = goes_on b backed f rest taken c h
  step_goes b backed f rest taken (Split c d) h = (goes_on b backed f rest taken c h.0, goes_on b backed f rest taken d h.1)

  taken_grown : (b : Branch) (f : FormulaId) (rest : List FormulaId) → f.0 < length b.done → open_work b.done b.work ≡ f ∷ rest → Grown b (taking b f rest)
  taken_grown b f rest stands is = record {
    parts = λ g x.
        elim x [
          | inl done ↦ inl (with_id-keeps b.done f g done)
          | inr work ↦
              elim (still_seen b.done b.work (f ∷ rest) is g work) [
                | inl done ↦ inl (with_id-keeps b.done f g done)
                | inr (inl same) ↦ inl (rw same (with_id-here b.done f stands))
                | inr (inr there) ↦ inr there
              ]
        ];
    must = λ k x. x;
    none_of = λ k x. x;
    next = λ g x. x;
    postponed = λ g x. x;
  }

  leaf_goes : (b : Branch) → IsBacked ns b → open_work b.done b.work ≡ [] → GoesTo b (record b { work = [] })
  leaf_goes b backed is =
      let grown : Grown b (record b { work = [] }) = record {
        parts = λ g x. elim x [ inl done ↦ inl done | inr work ↦ inl (still_seen b.done b.work [] is g work) ];
        must = λ k x. x;
        none_of = λ k x. x;
        next = λ g x. x;
        postponed = λ g x. x;
      } in
      record {
        grown = grown;
        backed = λ g done.
            backed_more ns (Seen b) (Seen (record b { work = [] })) b.cube b.cube (InNext b) (InNext b) (InPostponed b) (InPostponed b) grown g (node_at ns g.0) (backed g done);
      }

  step_on_goes : (b : Branch) → HasPlaces (length ns) b → IsBacked ns b → (work : List FormulaId) → open_work b.done b.work ≡ work → StepGoesTo b (step_on ns b work)
  step_on_goes b places backed [] is = (leaf_goes b backed is, refl)
  step_on_goes b places backed (f ∷ rest) is =
      let first : IsFirstOpen (λ g. g.0 < length ns) b.done f rest = first_open (λ g. g.0 < length ns) b.done b.work f rest is places.work in
      let stands : f.0 < length ns = first.first in
      let taken : HasPlaces (length ns) (taking b f rest) = taking_places ns b places f rest is in
      step_goes b backed f rest (taken_grown b f rest (rw places.done stands) is) (expanding ns (taking b f rest) f (node_at ns f.0))
      (expanding_backs ns (taking b f rest) taken f stands (node_at ns f.0) (PartsBelow-up f.0 (length ns) (omega arith) (node_at ns f.0) (list.parts_first f.0)))

  -- a leaf below a branch
  pub record LeafOf (b leaf : Branch) : Type 0 where
    pub goes : GoesTo b leaf
    pub empty : leaf.work ≡ []
    pub places : HasPlaces (length ns) leaf

  further : (b c leaf : Branch) → GoesTo b c → LeafOf c leaf → LeafOf b leaf
  further b c leaf g l = record { goes = record { grown = Grown-trans b c leaf g.grown l.goes.grown; backed = l.goes.backed }; empty = l.empty; places = l.places }

  leaf_below : (n : ℕ) → ((c : Branch) → HasPlaces (length ns) c → IsBacked ns c → (leaf : Branch) → Contains (leaves_within n ns c) (Some leaf) → LeafOf c leaf) → (b : Branch) (s : Step) → Stepped (length ns) b s → StepGoesTo b s → (leaf : Branch) → Contains (leaves_below (leaves_within n ns) s) (Some leaf) → LeafOf b leaf
  leaf_below n below b (Leaf c) places goes leaf there =
      elim (Contains-cases (Some c) [] (Some leaf) there) [
        | inl same ↦ (let e : c ≡ leaf = cc in subst (λ (x : Branch). LeafOf b x) e (record { goes = goes.0; empty = goes.1; places = places }))
        | inr none ↦ absurd (Contains-none (Some leaf) none)
      ]
  leaf_below n below b Dead places goes leaf there =
      elim (Contains-cases None [] (Some leaf) there) [
        | inl wrong ↦ absurd (let contra : ⊥ = cc in contra)
        | inr none ↦ absurd (Contains-none (Some leaf) none)
      ]
  leaf_below n below b (On c) places goes leaf there = further b c leaf goes (below c places.0 goes.backed leaf there)
  leaf_below n below b (Split c d) places goes leaf there =
      elim (Contains-append_cases (leaves_within n ns c) (leaves_within n ns d) (Some leaf) there) [
        | inl first ↦ further b c leaf goes.0 (below c places.0 goes.0.backed leaf first)
        | inr second ↦ further b d leaf goes.1 (below d places.2 goes.1.backed leaf second)
      ]

  -- each leaf below a branch has grown from it, and is backed
  pub leaf_of : (n : ℕ) (b : Branch) → HasPlaces (length ns) b → IsBacked ns b → (leaf : Branch) → Contains (leaves_within n ns b) (Some leaf) → LeafOf b leaf
  leaf_of zero b places backed leaf there = absurd (Contains-none (Some leaf) there)
  leaf_of (suc n) b places backed leaf there =
      leaf_below n (leaf_of n) b (step ns b) (step_stepped ns list b places) (step_on_goes b places backed (open_work b.done b.work) refl) leaf there
