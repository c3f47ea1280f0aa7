use Rattle.std.proofs.Common.{◌≡◌, inl, inr, ℕ, zero, suc, ◌+◌, ◌-◌, ◌<◌, ◌≤◌, true, false, eqb, List, Some, drop, get_or, length, slice_get, refl, sym, ◌∙◌, ap, subst, arith}
use Rattle.std.specs.Prelude.{Contains}
use Rattle.std.specs.List.{position_or_len}
use Rattle.std.proofs.lemmas.Bool.{cases_eq, cases_lt, cond-true, cond-false, eq-eqb, false≢true, ne_eqb}
use Rattle.std.proofs.lemmas.List.{get_or-drop}
use Rattle.std.proofs.lemmas.List.Elements.{All-contains}
use Rattle.std.proofs.lemmas.List.Folds.{list_any-from_Any}
use Rattle.std.proofs.lemmas.List.Sums.{fails_before_first}
use Rattle.std_lemmas.proofs.Lists.{Contains-none, Contains-slice_get}
use Rattle.letters_and_lassos.specs.Cube.{Fits}
use Rattle.letters_and_lassos.specs.Word.{Word, letter_at, next}
use Rattle.letters_and_lassos.specs.declared.cubes.Cube.{Cube}
use Rattle.ltl_formula.specs.declared.nodes.FormulaId.{FormulaId}
use Rattle.ltl_formula.specs.declared.nodes.Node.{Node}
use Rattle.ltl_formula.specs.Nodes.{IsNodeList}
use Rattle.obligation_sets.specs.declared.sets.Cover.{Cover}
use Rattle.obligation_sets.specs.declared.sets.Covering.{Covering}
use Rattle.obligation_sets.specs.Branch.{Branch}
use Rattle.obligation_sets.specs.Covers.{start_branch}
use Rattle.obligation_sets.specs.Reduced.{cover_by, covers_by}
use Rattle.obligation_sets.specs.Ids.{has_id, ids_of, is_among, same_id}
use Rattle.obligation_sets.proofs.BackedLeaves.{LeafOf, Seen}
use Rattle.obligation_sets.proofs.IdLists.{id_of_flag}
use Rattle.obligation_sets.proofs.Implied.{AsksFor, asked_done}
use Rattle.obligation_sets.proofs.NextStep.{Expansion, expansion, left_asked}
use Rattle.machine_model.specs.Accepts.{Path}
use Rattle.machine_model.specs.Automaton.{HasEdge}
use Rattle.cobuchi_build.specs.declared.exploring.State.{State}
use Rattle.cobuchi_build.specs.Built.{automaton_from}
use Rattle.cobuchi_build.specs.Explored.{Explored, counter_after, state_after}
use Rattle.cobuchi_build.proofs.Sound.{FromCover, IsGood, IsSound, begin_of}

-- an until that is put off holds the counter back
postponed_test : (postponed : List FormulaId) (f : FormulaId) → Contains postponed f → is_among postponed f ≡ true
postponed_test postponed f c = list_any-from_Any (λ g. same_id g f) postponed (c.0, f, c.1, c.2, eq-eqb f.0 f.0 refl)

pub held_back : (untils : List FormulaId) (counter k : ℕ) (f : FormulaId) (postponed : List FormulaId) → get_or untils k f ≡ f → Contains postponed f → begin_of untils counter ≤ k → counter_after untils counter postponed ≤ k
held_back untils counter k f postponed at c from =
    let b : ℕ = begin_of untils counter in
    elim (cases_lt (k - begin_of untils counter) (position_or_len (is_among postponed) (drop (begin_of untils counter) untils))) [
      | inr more ↦ omega arith
      | inl less ↦
          let fails : is_among postponed (get_or (drop (begin_of untils counter) untils) (k - begin_of untils counter) f) ≡ false =
          fails_before_first (is_among postponed) (drop (begin_of untils counter) untils) (k - begin_of untils counter) f less in
          let there : begin_of untils counter + (k - begin_of untils counter) ≡ k = omega arith in
          let is : get_or (drop (begin_of untils counter) untils) (k - begin_of untils counter) f ≡ f =
          get_or-drop (begin_of untils counter) untils (k - begin_of untils counter) f ∙ ap (λ n. get_or untils n f) there ∙ at in
          absurd (false≢true (sym fails ∙ ap (is_among postponed) is ∙ postponed_test postponed f c))
    ]

-- the counter goes on from 0 or from itself
pub begin_least : (untils : List FormulaId) (counter k : ℕ) → counter ≤ k → begin_of untils counter ≤ k
begin_least untils counter k h =
    elim (cases_eq counter (length untils)) [
      | inl last ↦ rw (cond-true (eqb counter (length untils)) 0 counter (eq-eqb counter (length untils) last)) (omega arith)
      | inr other ↦ rw (cond-false (eqb counter (length untils)) 0 counter (ne_eqb counter (length untils) other)) h
    ]

pub begin_at_end : (untils : List FormulaId) (counter : ℕ) → counter ≡ length untils → begin_of untils counter ≡ 0
begin_at_end untils counter last = cond-true (eqb counter (length untils)) 0 counter (eq-eqb counter (length untils) last)

pub begin_inside : (untils : List FormulaId) (counter : ℕ) → counter < length untils → begin_of untils counter ≡ counter
begin_inside untils counter less = cond-false (eqb counter (length untils)) 0 counter (ne_eqb counter (length untils) (λ e. omega arith))

module _ (covering : Covering) (ns : List Node) (list : IsNodeList ns) (untils : List FormulaId) (w : Word) where
  -- a step from a state at a position: the leaf of one of its covers, whose cube fits the letter
  pub record Move (i : ℕ) (s t : State) : Type 0 where
    pub leaf : Branch
    pub below : LeafOf ns list (start_branch ns s.set) leaf
    pub fits : Fits leaf.cube (letter_at w i)
    pub target : t ≡ state_after untils s.counter (cover_by covering ns leaf)

  -- so many steps from a state at a position to another
  abbrev pub Walk : ℕ → ℕ → State → ℕ → State → Type 0
  Walk zero i s j t = (i ≡ j) × (s ≡ t)
  Walk (suc n) i s j t = (u : State) × Move i s u × Walk n (next w i) u j t

  pub seen_done : (b leaf : Branch) → LeafOf ns list b leaf → (g : FormulaId) → Seen leaf g → has_id leaf.done g ≡ true
  seen_done b leaf below g (inl done) = done
  seen_done b leaf below g (inr work) = absurd (Contains-none g (subst (λ (fs : List FormulaId). Contains fs g) below.empty work))

  -- each formula that the state's set asks for is taken up in the step
  pub done_in : (i : ℕ) (s t : State) (m : Move i s t) (f : FormulaId) → AsksFor ns s.set f → has_id m.leaf.done f ≡ true
  done_in i s t m f asks =
      asked_done ns m.leaf (seen_done (start_branch ns s.set) m.leaf m.below) m.below.goes.backed s.set
      (λ g there. seen_done (start_branch ns s.set) m.leaf m.below g (m.below.goes.grown.parts g (inr there))) f asks

  -- what the leaf leaves the next state's set asks for
  pub left_in : (i : ℕ) (s t : State) (m : Move i s t) (f : FormulaId) → has_id m.leaf.next f ≡ true → AsksFor ns t.set f
  left_in i s t m f h = subst (λ (u : State). AsksFor ns u.set f) (sym m.target) (left_asked covering ns list m.leaf.next m.below.places.next f h)

  -- a step that puts an until off doesn't pass its number
  pub held_at : (i : ℕ) (s t : State) (m : Move i s t) (k : ℕ) (f : FormulaId) → get_or untils k f ≡ f → has_id m.leaf.postponed f ≡ true → begin_of untils s.counter ≤ k → t.counter ≤ k
  held_at i s t m k f at put from = subst (λ (u : State). u.counter ≤ k) (sym m.target) (held_back untils s.counter k f (ids_of m.leaf.postponed) at (id_of_flag m.leaf.postponed f put) from)

  -- the until is put off at each step
  abbrev pub AllPut : FormulaId → (n i : ℕ) (s : State) (j : ℕ) (t : State) → Walk n i s j t → Type 0
  AllPut f zero i s j t walk = Unit {0}
  AllPut f (suc n) i s j t walk = (has_id walk.1.leaf.postponed f ≡ true) × AllPut f n (next w i) walk.0 j t walk.2

  pub all_held : (k : ℕ) (f : FormulaId) → get_or untils k f ≡ f → (n i : ℕ) (s : State) (j : ℕ) (t : State) (walk : Walk (suc n) i s j t) → AllPut f (suc n) i s j t walk → begin_of untils s.counter ≤ k → t.counter ≤ k
  all_held k f at zero i s j t walk puts from =
      let there : walk.0 ≡ t = walk.2.1 in
      subst (λ (u : State). u.counter ≤ k) there (held_at i s walk.0 walk.1 k f at puts.0 from)
  all_held k f at (suc n) i s j t walk puts from =
      let here : walk.0.counter ≤ k = held_at i s walk.0 walk.1 k f at puts.0 from in
      all_held k f at n (next w i) walk.0 j t walk.2 puts.1 (begin_least untils walk.0.counter k here)

  -- a path of the automaton is such a walk
  module _ (f : FormulaId) (n : ℕ) (found : Explored) (sound : IsSound covering ns untils f n found) where
    edge_move : (i q r : ℕ) (s : State) → slice_get found.states q ≡ Some s → HasEdge (automaton_from untils found) (letter_at w i) q r → (t : State) × (slice_get found.states r ≡ Some t) × Move i s t
    edge_move i q r s at edge =
        let fc : FromCover covering ns untils found (record { from = q; cube = edge.cube; to = r }) = sound.edges (record { from = q; cube = edge.cube; to = r }) edge.stands in
        let here : Some s ≡ Some fc.state = sym at ∙ fc.at in
        let is_state : s ≡ fc.state = cc in
        let there : Contains (covers_by covering ns s.set) fc.cover = subst (λ (u : State). Contains (covers_by covering ns u.set) fc.cover) (sym is_state) fc.is_cover in
        let good : IsGood covering ns untils s = All-contains (IsGood covering ns untils) found.states s sound.good (Contains-slice_get found.states q s at) in
        let e : Expansion ns list s.set (λ k d h. (good.normal k d h).0) covering fc.cover = expansion ns list s.set (λ k d h. (good.normal k d h).0) covering fc.cover there in
        let same : edge.cube ≡ e.leaf.cube = fc.cube ∙ sym (ap (λ (c : Cover). c.cube) e.is) in (
          state_after untils s.counter fc.cover,
          fc.target ∙ ap (λ (u : State). Some (state_after untils u.counter fc.cover)) (sym is_state),
          record {
            leaf = e.leaf;
            below = e.below;
            fits = subst (λ (c : Cube). Fits c (letter_at w i)) same edge.fits;
            target = ap (state_after untils s.counter) (sym e.is);
          },
        )

    pub path_walk : (n : ℕ) (i q j r : ℕ) → Path (automaton_from untils found) w n i q j r → (s : State) → slice_get found.states q ≡ Some s → (t : State) × (slice_get found.states r ≡ Some t) × Walk n i s j t
    path_walk zero i q j r path s at = (s, ap (slice_get found.states) (sym path.1) ∙ at, (path.0, refl))
    path_walk (suc n) i q j r path s at =
        let step : (t : State) × (slice_get found.states path.0 ≡ Some t) × Move i s t = edge_move i q path.0 s at path.1 in
        let rest : (t : State) × (slice_get found.states r ≡ Some t) × Walk n (next w i) step.0 j t = path_walk n (next w i) path.0 j r path.2 step.0 step.1 in
        (rest.0, rest.1, (step.0, step.2, rest.2))
