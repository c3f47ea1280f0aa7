use Rattle.std.proofs.Common.{◌≡◌, ℕ, zero, suc, ◌<◌, inl, inr, Bool, true, false, ◌&&◌, ◌||◌, List, [], ◌∷◌, Option, None, Some, All, length, refl, sym, ◌∙◌, subst, arith}
use Rattle.std.specs.Prelude.{Contains, IsTrue}
use Rattle.std.proofs.lemmas.Bool.{and_from, false_from_ne_true, not_from_false, or_left, or_right}
use Rattle.std.proofs.lemmas.List.Elements.{All-contains}
use Rattle.std_lemmas.proofs.Lists.{Contains-cases, Contains-head, Contains-later, Contains-none, All-from_contains}
use Rattle.letters_and_lassos.specs.Cube.{Fits}
use Rattle.letters_and_lassos.specs.declared.cubes.Cube.{Cube}
use Rattle.letters_and_lassos.specs.Signals.{has}
use Rattle.letters_and_lassos.specs.Word.{Word, HasRing, lasso_len, letter_at, next}
use Rattle.letters_and_lassos.proofs.Positions.{next_within}
use Rattle.letters_and_lassos.specs.declared.letters.Letter.{Letter}
use Rattle.ltl_formula.specs.declared.nodes.FormulaId.{FormulaId}
use Rattle.ltl_formula.specs.declared.nodes.Node.{Node}
use Rattle.ltl_formula.specs.declared.nodes.Node.TheVariants.{True, False, Signal, Not, Next, Finally, Globally, And, Or, Implies, Equiv, Until, Release, WeakUntil}
use Rattle.ltl_formula.specs.Nodes.{IsNodeList, PartsBelow, IsNodeIn, node_at, tree_at, tree_of, trees_of}
use Rattle.ltl_formula.specs.Truth.{holds}
use Rattle.ltl_formula.proofs.Trees.{tree_at-node}
use Rattle.obligation_sets.specs.declared.sets.Cover.{Cover}
use Rattle.obligation_sets.specs.declared.sets.Covering.{Covering}
use Rattle.obligation_sets.specs.Apart.{has-nothing}
use Rattle.obligation_sets.specs.Branch.{Branch}
use Rattle.obligation_sets.specs.Covers.{alive, set_leaves, start_branch}
use Rattle.obligation_sets.specs.Ids.{has_id, ids_of}
use Rattle.obligation_sets.specs.NextStep.{AreNormal, CoversAreTheNextStep, HasFittingCover, MeetsAt, SecondPartFails, SetHolds}
use Rattle.obligation_sets.specs.Reduced.{cover_by, covers_by, left_by}
use Rattle.obligation_sets.specs.Steps.{HasPlaces, undone}
use Rattle.obligation_sets.proofs.Walks.{start_places}
use Rattle.obligation_sets.proofs.LessAsked.{HasBelow, covers_below, covers_from, left_from}
use Rattle.obligation_sets.proofs.BackedLeaves.{Backed, InNext, InPostponed, LeafOf, Opposed, Seen, leaf_of}
use Rattle.obligation_sets.proofs.Flags.{has_id-none, has_id-within}
use Rattle.obligation_sets.proofs.IdLists.{flag_of_id, id_of_flag}
use Rattle.obligation_sets.proofs.Implied.{AsksFor, asked_holds, still_asks}
use Rattle.obligation_sets.proofs.Implied.AsksFor.{in_set}
use Rattle.obligation_sets.proofs.MetLeaves.{IsMet, Reached, reached, second_false}
use Rattle.obligation_sets.proofs.OneStep.{IsOneStep, one_step, value}

-- the leaf that a cover comes from
pub alive_from : (cover : Branch → Cover) (leaves : List (Option Branch)) (c : Cover) → Contains (alive cover leaves) c → (leaf : Branch) × Contains leaves (Some leaf) × (cover leaf ≡ c)
alive_from cover [] c h = absurd (Contains-none c h)
alive_from cover (None ∷ leaves) c h = let r : (leaf : Branch) × Contains leaves (Some leaf) × (cover leaf ≡ c) = alive_from cover leaves c h in (r.0, Contains-later None leaves (Some r.0) r.1, r.2)
alive_from cover (Some b ∷ leaves) c h =
    elim (Contains-cases (cover b) (alive cover leaves) c h) [
      | inl same ↦ (b, Contains-head (Some b) leaves, same)
      | inr later ↦ let r : (leaf : Branch) × Contains leaves (Some leaf) × (cover leaf ≡ c) = alive_from cover leaves c later in (r.0, Contains-later (Some b) leaves (Some r.0) r.1, r.2)
    ]

pub alive_has : (cover : Branch → Cover) (leaves : List (Option Branch)) (leaf : Branch) → Contains leaves (Some leaf) → Contains (alive cover leaves) (cover leaf)
alive_has cover [] leaf h = absurd (Contains-none (Some leaf) h)
alive_has cover (None ∷ leaves) leaf h =
    elim (Contains-cases None leaves (Some leaf) h) [
      | inl wrong ↦ absurd (let contra : ⊥ = cc in contra)
      | inr later ↦ alive_has cover leaves leaf later
    ]
alive_has cover (Some b ∷ leaves) leaf h =
    elim (Contains-cases (Some b) leaves (Some leaf) h) [
      | inl same ↦ (let e : b ≡ leaf = cc in subst (λ (x : Branch). Contains (cover b ∷ alive cover leaves) (cover x)) e (Contains-head (cover b) (alive cover leaves)))
      | inr later ↦ Contains-later (cover b) (alive cover leaves) (cover leaf) (alive_has cover leaves leaf later)
    ]

module _ (ns : List Node) (list : IsNodeList ns) (set : List FormulaId) (stand : All (IsNodeIn ns) set) where
  -- a cover of the set and the leaf that it is
  pub record Expansion (covering : Covering) (c : Cover) : Type 0 where
    pub leaf : Branch
    pub below : LeafOf ns list (start_branch ns set) leaf
    pub is : cover_by covering ns leaf ≡ c

  pub expansion : (covering : Covering) (c : Cover) → Contains (covers_by covering ns set) c → Expansion covering c
  expansion covering c h =
      let r : (leaf : Branch) × Contains (set_leaves ns set) (Some leaf) × (cover_by covering ns leaf ≡ c) = alive_from (cover_by covering ns) (set_leaves ns set) c (covers_from covering ns set c h) in
      record {
        leaf = r.0;
        below = leaf_of ns list (suc (undone (start_branch ns set).done)) (start_branch ns set) (start_places ns set stand) (λ f done. absurd (has_id-none (length ns) f done)) r.0 r.1;
        is = r.2;
      }

  -- each formula of the set is among those that the leaf took off its work list
  pub set_done : (leaf : Branch) → LeafOf ns list (start_branch ns set) leaf → (f : FormulaId) → Contains set f → has_id leaf.done f ≡ true
  set_done leaf below f h = seen_done (below.goes.grown.parts f (inr h))
    where
      seen_done : Seen leaf f → has_id leaf.done f ≡ true
      seen_done (inl done) = done
      seen_done (inr work) = absurd (Contains-none f (subst (λ (fs : List FormulaId). Contains fs f) below.empty work))

-- what is opposed to a cube is false on a letter that the cube fits
module _ (letter : Letter) (now later : FormulaId → Bool) (cube : Cube) (fits : Fits cube letter) where
  pub opposed_value : (g : FormulaId) (node : Node) → Opposed cube node → value letter now later g node ≡ false
  opposed_value g (Signal k) h = false_from_ne_true (has letter.0 k) (fits.none_of k h)
  opposed_value g True h = absurd h
  opposed_value g False h = absurd h
  opposed_value g (Not x) h = absurd h
  opposed_value g (Next x) h = absurd h
  opposed_value g (Finally x) h = absurd h
  opposed_value g (Globally x) h = absurd h
  opposed_value g (And x y) h = absurd h
  opposed_value g (Or x y) h = absurd h
  opposed_value g (Implies x y) h = absurd h
  opposed_value g (Equiv x y) h = absurd h
  opposed_value g (Until x y) h = absurd h
  opposed_value g (Release x y) h = absurd h
  opposed_value g (WeakUntil x y) h = absurd h

-- what was taken off the work list of a leaf holds, where its cube fits and what it leaves holds next
module _ (ns : List Node) (list : IsNodeList ns) (letter : Letter) (now later : FormulaId → Bool) (one : IsOneStep ns letter now later) (leaf : Branch) (fits : Fits leaf.cube letter) (left : (f : FormulaId) → has_id leaf.next f ≡ true → later f ≡ true) where
  module _ (f : FormulaId) (stands : IsNodeIn ns f) (below : (g : FormulaId) → g.0 < f.0 → Seen leaf g → now g ≡ true) where
    backed_value : (node : Node) → PartsBelow f.0 node → Backed ns (Seen leaf) leaf.cube (InNext leaf) (InPostponed leaf) f node → value letter now later f node ≡ true
    backed_value True parts h = refl
    backed_value False parts h = absurd h
    backed_value (Signal k) parts h = fits.must k h
    backed_value (Not g) parts h = not_from_false (now g) (one.means g (let p : g.0 < f.0 = parts in omega arith) ∙ opposed_value letter now later leaf.cube fits g (node_at ns g.0) h)
    backed_value (Next g) parts h = left g h
    backed_value (Finally g) parts h = absurd h
    backed_value (Globally g) parts h = absurd h
    backed_value (And g k) parts h = and_from (now g) (now k) (below g parts.0 h.0) (below k parts.1 h.1)
    backed_value (Or g k) parts h = elim h [ inl x ↦ or_left (now g) (now k) (below g parts.0 x) | inr x ↦ or_right (now g) (now k) (below k parts.1 x) ]
    backed_value (Implies g k) parts h = absurd h
    backed_value (Equiv g k) parts h = absurd h
    backed_value (Until g k) parts h =
        elim h [
          | inl x ↦ or_left (now k) (now g && later f) (below k parts.1 x)
          | inr x ↦ or_right (now k) (now g && later f) (and_from (now g) (later f) (below g parts.0 x.0) (left f x.1))
        ]
    backed_value (Release g k) parts h =
        and_from (now k) (now g || later f) (below k parts.1 h.0)
        (elim h.1 [ inl x ↦ or_left (now g) (later f) (below g parts.0 x) | inr x ↦ or_right (now g) (later f) (left f x) ])
    backed_value (WeakUntil g k) parts h = absurd h

  module _ (places : HasPlaces (length ns) leaf) (empty : leaf.work ≡ []) (backed : (f : FormulaId) → has_id leaf.done f ≡ true → Backed ns (Seen leaf) leaf.cube (InNext leaf) (InPostponed leaf) f (node_at ns f.0)) where
    seen_is_done : (f : FormulaId) → Seen leaf f → has_id leaf.done f ≡ true
    seen_is_done f (inl done) = done
    seen_is_done f (inr work) = absurd (Contains-none f (subst (λ (fs : List FormulaId). Contains fs f) empty work))

    done_below : (n : ℕ) (f : FormulaId) → f.0 < n → has_id leaf.done f ≡ true → now f ≡ true
    done_below zero f less done = absurd (omega arith)
    done_below (suc n) f less done =
        let stands : IsNodeIn ns f = rw places.done at (has_id-within leaf.done f done) in
        one.means f stands
        ∙ backed_value f stands (λ g smaller seen. done_below n g (omega arith) (seen_is_done g seen)) (node_at ns f.0) (list.parts_first f.0) (backed f done)

    pub done_holds : (f : FormulaId) → has_id leaf.done f ≡ true → now f ≡ true
    done_holds f done = done_below (suc f.0) f (omega arith) done

-- what a leaf leaves is still asked for by what its cover leaves
pub left_asked : (covering : Covering) (ns : List Node) (list : IsNodeList ns) (left : List Bool) → length left ≡ length ns → (f : FormulaId) → has_id left f ≡ true → AsksFor ns (ids_of (left_by covering ns left)) f
left_asked Covering.Plain ns list left places f h = in_set (id_of_flag left f h)
left_asked Covering.Reduced ns list left places f h = still_asks ns list left places f h

module _ (covering : Covering) (ns : List Node) (w : Word) (i : ℕ) (set : List FormulaId) (list : IsNodeList ns) (normal : AreNormal ns set) (ring : HasRing w) (within : i < lasso_len w) where
  stand : All (IsNodeIn ns) set
  stand = λ k d h. (normal k d h).0

  -- what a cover leaves stands in the list, since its leaf leaves it
  left_holds : (leaf : Branch) → HasPlaces (length ns) leaf → SetHolds ns w (next w i) (cover_by covering ns leaf).next → (f : FormulaId) → Contains (cover_by covering ns leaf).next f → IsNodeIn ns f × IsTrue (holds w (tree_at ns f) (next w i))
  left_holds leaf places all f there = (
    rw places.next at (has_id-within leaf.next f (left_from covering ns leaf.next f there)),
    All-contains (λ x. IsTrue (holds w (tree_at ns x) (next w i))) (cover_by covering ns leaf).next f all there,
  )

  holds_where_met : (c : Cover) → Contains (covers_by covering ns set) c → MeetsAt ns w i c → SetHolds ns w i set
  holds_where_met c there meets =
      let e : Expansion ns list set stand covering c = expansion ns list set stand covering c there in
      let met : MeetsAt ns w i (cover_by covering ns e.leaf) = subst (λ (x : Cover). MeetsAt ns w i x) (sym e.is) meets in
      All-from_contains (λ f. IsTrue (holds w (tree_at ns f) i)) set
      (λ f h.
      done_holds ns list (letter_at w i) (λ g. holds w (tree_at ns g) i) (λ g. holds w (tree_at ns g) (next w i)) (one_step ns w ring i within list) e.leaf met.fits
      (λ g flag.
      asked_holds ns list (letter_at w (next w i)) (λ x. holds w (tree_at ns x) (next w i)) (λ x. holds w (tree_at ns x) (next w (next w i)))
      (one_step ns w ring (next w i) (next_within w i ring within) list) (cover_by covering ns e.leaf).next (left_holds e.leaf e.below.places met.next_holds) g
      (left_asked covering ns list e.leaf.next e.below.places.next g flag))
      e.below.places e.below.empty e.below.goes.backed f (set_done ns list set stand e.leaf e.below f h))

  start_met : SetHolds ns w i set → IsMet ns (letter_at w i) (λ g. holds w (tree_at ns g) i) (λ g. holds w (tree_at ns g) (next w i)) (start_branch ns set)
  start_met all = record {
    work = all;
    normal = λ k d h. (normal k d h).1;
    fits = record { must = λ k h. absurd (has-nothing k h); none_of = λ k h. absurd (has-nothing k h) };
    next = λ f h. absurd (has_id-none (length ns) f h);
    postponed = λ f h. absurd (has_id-none (length ns) f h);
    put_off = λ f h. absurd (has_id-none (length ns) f h);
  }

  second_fails : (f : FormulaId) (node : Node) → tree_at ns f ≡ tree_of (trees_of ns) node → second_false (λ g. holds w (tree_at ns g) i) node → SecondPartFails w i (tree_at ns f)
  second_fails f (Until g h) e x = rw e x
  second_fails f True e x = absurd x
  second_fails f False e x = absurd x
  second_fails f (Signal k) e x = absurd x
  second_fails f (Not g) e x = absurd x
  second_fails f (Next g) e x = absurd x
  second_fails f (Finally g) e x = absurd x
  second_fails f (Globally g) e x = absurd x
  second_fails f (And g h) e x = absurd x
  second_fails f (Or g h) e x = absurd x
  second_fails f (Implies g h) e x = absurd x
  second_fails f (Equiv g h) e x = absurd x
  second_fails f (Release g h) e x = absurd x
  second_fails f (WeakUntil g h) e x = absurd x

  met_where_holds : SetHolds ns w i set → HasFittingCover covering ns w i set
  met_where_holds all =
      let r : Reached ns (letter_at w i) (λ g. holds w (tree_at ns g) i) (λ g. holds w (tree_at ns g) (next w i)) (set_leaves ns set) =
      reached ns (letter_at w i) (λ g. holds w (tree_at ns g) i) (λ g. holds w (tree_at ns g) (next w i)) list (one_step ns w ring i within list)
      (suc (undone (start_branch ns set).done)) (start_branch ns set) (start_places ns set stand) (omega arith) (start_met all) in
      let b : HasBelow (covers_by covering ns set) (cover_by covering ns r.leaf) =
      covers_below covering ns set (cover_by covering ns r.leaf) (alive_has (cover_by covering ns) (set_leaves ns set) r.leaf r.there) in
      record {
        cover = b.cover;
        is_cover = b.there;
        met = record {
          fits = record { must = λ k h. r.met.fits.must k (b.part.must k h); none_of = λ k h. r.met.fits.none_of k (b.part.none_of k h) };
          next_holds = All-from_contains (λ f. IsTrue (holds w (tree_at ns f) (next w i))) b.cover.next (λ f h. r.met.next f (left_from covering ns r.leaf.next f (b.part.next f h)));
        };
        postponed = All-from_contains (λ f. SecondPartFails w i (tree_at ns f)) b.cover.postponed
            (λ f h.
            let flag : has_id r.leaf.postponed f ≡ true = flag_of_id r.leaf.postponed f (b.part.postponed f h) in
            let there : IsNodeIn ns f = rw r.places.postponed at (has_id-within r.leaf.postponed f flag) in
            second_fails f (node_at ns f.0) (tree_at-node ns f.0 there (list.parts_first f.0)) (r.met.postponed f flag));
        put_off_hold = All-from_contains (λ f. IsTrue (holds w (tree_at ns f) (next w i))) b.cover.postponed (λ f h. r.met.put_off f (flag_of_id r.leaf.postponed f (b.part.postponed f h)));
      }

pub covers_are_the_next_step : CoversAreTheNextStep
covers_are_the_next_step = record {
  holds_where_met = λ covering ns w i set c list normal ring within there met. holds_where_met covering ns w i set list normal ring within c there met;
  met_where_holds = λ covering ns w i set list normal ring within all. met_where_holds covering ns w i set list normal ring within all;
}
