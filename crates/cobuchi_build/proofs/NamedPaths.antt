-- Where a formula is true it has a path of named states: the leaf of true choices is taken at each step.
use Rattle.std.proofs.Common.{◌≡◌, ◌⊎◌, inl, inr, ℕ, zero, suc, ◌+◌, ◌-◌, ◌<◌, ◌≤◌, true, false, List, [], drop, get_or, length, refl, sym, ◌∙◌, ap, subst, arith}
use Rattle.std.specs.Prelude.{Any, Contains, IsTrue}
use Rattle.std.specs.List.{position_or_len}
use Rattle.std.proofs.lemmas.Bool.{both_ways, cases_eq, cases_lt, eqb-true}
use Rattle.std.proofs.lemmas.List.{get_or-drop, length-drop}
use Rattle.std.proofs.lemmas.List.Elements.{All-cons, All-contains, All-nil}
use Rattle.std.proofs.lemmas.List.Folds.{Any-from_list_any}
use Rattle.std.proofs.lemmas.List.Sums.{passes_at_first}
use Rattle.letters_and_lassos.specs.Cube.{Fits}
use Rattle.letters_and_lassos.specs.Word.{Word, HasRing, after, lasso_len, letter_at, next}
use Rattle.letters_and_lassos.proofs.Positions.{after-suc, first_position, next_within}
use Rattle.ltl_formula.specs.Laws.{Comes}
use Rattle.ltl_formula.specs.declared.nodes.FormulaId.{FormulaId}
use Rattle.ltl_formula.specs.declared.nodes.Node.{Node}
use Rattle.ltl_formula.specs.Nodes.{IsNodeList, tree_at}
use Rattle.ltl_formula.specs.Tree.{Tree}
use Rattle.ltl_formula.specs.Tree.Tree.{truth, falsity, signal, negation, next_time, finally, globally, conjunction, disjunction, implication, equivalence, until, release, weak_until}
use Rattle.ltl_formula.specs.Truth.{holds, until_at}
use Rattle.ltl_formula.proofs.Ahead.{until_at-gives}
use Rattle.ltl_formula.proofs.NodeEquality.{same_id_of}
use Rattle.obligation_sets.specs.declared.sets.Covering.{Covering}
use Rattle.obligation_sets.specs.Ids.{is_among, same_id}
use Rattle.obligation_sets.specs.NextStep.{AreNormal, HasFittingCover, SecondPartFails, SetHolds}
use Rattle.obligation_sets.proofs.Kept.{next_normal}
use Rattle.obligation_sets.proofs.NextStep.{covers_are_the_next_step}
use Rattle.cobuchi_build.specs.declared.exploring.State.{State}
use Rattle.cobuchi_build.specs.Explored.{counter_after, start_state, state_after}
use Rattle.cobuchi_build.specs.Laws.{TrueFormulasHavePaths}
use Rattle.cobuchi_build.specs.Occurring.{untils_of}
use Rattle.cobuchi_build.specs.Paths.{ComesToEnd, IsStep}
use Rattle.cobuchi_build.proofs.Along.{start_normal}
use Rattle.cobuchi_build.proofs.Moves.{begin_inside}
use Rattle.cobuchi_build.proofs.Sound.{begin_of, counter_within}

-- an until whose second part is false
record IsFailing (w : Word) (i : ℕ) (t : Tree) : Type 0 where
  first : Tree
  second : Tree
  is : t ≡ until first second
  fails : holds w second i ≡ false

failing : (w : Word) (i : ℕ) (t : Tree) → SecondPartFails w i t → IsFailing w i t
failing w i (until a b) h = record { first = a; second = b; is = refl; fails = h }
failing w i truth h = absurd h
failing w i falsity h = absurd h
failing w i (signal s) h = absurd h
failing w i (negation a) h = absurd h
failing w i (next_time a) h = absurd h
failing w i (finally a) h = absurd h
failing w i (globally a) h = absurd h
failing w i (conjunction a b) h = absurd h
failing w i (disjunction a b) h = absurd h
failing w i (implication a b) h = absurd h
failing w i (equivalence a b) h = absurd h
failing w i (release a b) h = absurd h
failing w i (weak_until a b) h = absurd h

-- the counter goes up, or the until that it waits for was put off
postponed_from : (postponed : List FormulaId) (f : FormulaId) → is_among postponed f ≡ true → Contains postponed f
postponed_from postponed f h =
    let a : Any (λ g. same_id g f ≡ true) postponed = Any-from_list_any (λ g. same_id g f) postponed h in
    let same : a.1 ≡ f = same_id_of a.1 f (eqb-true a.1.0 f.0 a.4) in
    subst (λ (x : FormulaId). Contains postponed x) same (a.0, a.2, a.3)

counter_moves : (untils : List FormulaId) (c : ℕ) (postponed : List FormulaId) (d : FormulaId) → c < length untils → (c < counter_after untils c postponed) ⊎ ((counter_after untils c postponed ≡ c) × Contains postponed (get_or untils c d))
counter_moves untils c postponed d less =
    let begin : begin_of untils c ≡ c = begin_inside untils c less in
    let is : counter_after untils c postponed ≡ c + position_or_len (is_among postponed) (drop c untils) = ap (λ b. b + position_or_len (is_among postponed) (drop b untils)) begin in
    elim (cases_lt 0 (position_or_len (is_among postponed) (drop c untils))) [
      | inl up ↦ inl (omega arith)
      | inr stays ↦
          let none : position_or_len (is_among postponed) (drop c untils) ≡ 0 = omega arith in
          let some : length (drop c untils) ≡ length untils - c = length-drop c untils in
          let passes : is_among postponed (get_or (drop c untils) (position_or_len (is_among postponed) (drop c untils)) d) ≡ true =
          passes_at_first (is_among postponed) (drop c untils) d (omega arith) in
          let same : c + 0 ≡ c = omega arith in
          let here : get_or (drop c untils) (position_or_len (is_among postponed) (drop c untils)) d ≡ get_or untils c d =
          ap (λ k. get_or (drop c untils) k d) none ∙ get_or-drop c untils 0 d ∙ ap (λ k. get_or untils k d) same in
          inr (omega arith, postponed_from postponed (get_or untils c d) (ap (is_among postponed) (sym here) ∙ passes))
    ]

module _ (covering : Covering) (ns : List Node) (list : IsNodeList ns) (untils : List FormulaId) (w : Word) (ring : HasRing w) (f : FormulaId) where
  -- a state at a position where its set holds
  record Pair : Type 0 where
    position : ℕ
    state : State
    within : position < lasso_len w
    true_here : SetHolds ns w position state.set
    normal : AreNormal ns state.set
    counter : state.counter ≤ length untils

  -- the step of a cover that fits and puts off only what it must
  record Onward (p : Pair) : Type 0 where
    cover : HasFittingCover covering ns w p.position p.state.set
    pair : Pair
    position_is : pair.position ≡ next w p.position
    state_is : pair.state ≡ state_after untils p.state.counter cover.cover

  go : (p : Pair) → Onward p
  go p =
      let fitting : HasFittingCover covering ns w p.position p.state.set = covers_are_the_next_step.met_where_holds covering ns w p.position p.state.set list p.normal ring p.within p.true_here in
      record {
        cover = fitting;
        pair = record {
          position = next w p.position;
          state = state_after untils p.state.counter fitting.cover;
          within = next_within w p.position ring p.within;
          true_here = fitting.met.next_holds;
          normal = next_normal ns list covering p.state.set p.normal fitting.cover fitting.is_cover;
          counter = counter_within untils p.state.counter fitting.cover.postponed p.counter;
        };
        position_is = refl;
        state_is = refl;
      }

  module _ (first : Pair) where
    -- the pairs of the run, one after another
    abbrev at : ℕ → Pair
    at zero = first
    at (suc t) = (go (at t)).pair

    abbrev count : ℕ → ℕ
    count t = (at t).state.counter

    -- a later time with a higher counter
    record IsHigher (c t : ℕ) : Type 0 where
      time : ℕ
      later : t < time
      above : c < count time

    -- one step on: the counter is higher, or it waits on and its until was put off
    record Waits (t : ℕ) : Type 0 where
      same : count (suc t) ≡ count t
      put : Contains (go (at t)).cover.cover.postponed (get_or untils (count t) f)

    moves : (t : ℕ) → count t < length untils → (count t < count (suc t)) ⊎ Waits t
    moves t less =
        let is : count (suc t) ≡ counter_after untils (count t) (go (at t)).cover.cover.postponed = ap (λ (s : State). s.counter) (go (at t)).state_is in
        elim (counter_moves untils (count t) (go (at t)).cover.cover.postponed f less) [
          | inl up ↦ inl (omega arith)
          | inr stays ↦ inr (record { same = is ∙ stays.0; put = stays.1 })
        ]

    put_fails : (t : ℕ) → Waits t → IsFailing w (at t).position (tree_at ns (get_or untils (count t) f))
    put_fails t waits =
        failing w (at t).position (tree_at ns (get_or untils (count t) f))
        (All-contains (λ g. SecondPartFails w (at t).position (tree_at ns g)) (go (at t)).cover.cover.postponed (get_or untils (count t) f) (go (at t)).cover.postponed waits.put)

    -- where the second part of the until that is waited for comes, the counter goes up by then
    module _ (c : ℕ) (less : c < length untils) (a b : Tree) (is : tree_at ns (get_or untils c f) ≡ until a b) where
      second_fails : (t : ℕ) → count t ≡ c → Waits t → holds w b (at t).position ≡ false
      second_fails t here waits =
          let fails : IsFailing w (at t).position (tree_at ns (get_or untils (count t) f)) = put_fails t waits in
          let same : until a b ≡ until fails.first fails.second = sym is ∙ ap (λ k. tree_at ns (get_or untils k f)) (sym here) ∙ fails.is in
          let second : fails.second ≡ b = cc in
          subst (λ (tree : Tree). holds w tree (at t).position ≡ false) second fails.fails

      climb : (j t : ℕ) → count t ≡ c → holds w b (after w (at t).position j) ≡ true → IsHigher c t
      climb zero t here comes =
          elim (moves t (omega arith)) [
            | inl up ↦ record { time = suc t; later = omega arith; above = omega arith }
            | inr waits ↦ absurd (both_ways (holds w b (at t).position) (second_fails t here waits) comes)
          ]
      climb (suc j) t here comes =
          elim (moves t (omega arith)) [
            | inl up ↦ record { time = suc t; later = omega arith; above = omega arith }
            | inr waits ↦
                let there : holds w b (after w (at (suc t)).position j) ≡ true = subst (λ (k : ℕ). holds w b (after w k j) ≡ true) (sym (go (at t)).position_is) comes in
                let more : IsHigher c (suc t) = climb j (suc t) (waits.same ∙ here) there in
                let passed : suc t < more.time = more.later in
                record { time = more.time; later = omega arith; above = more.above }
          ]

    -- behind each time at which the counter isn't at the end it is higher
    higher : (t : ℕ) → count t < length untils → IsHigher (count t) t
    higher t less =
        elim (moves t less) [
          | inl up ↦ record { time = suc t; later = omega arith; above = up }
          | inr waits ↦
              let fails : IsFailing w (at t).position (tree_at ns (get_or untils (count t) f)) = put_fails t waits in
              let later : holds w (tree_at ns (get_or untils (count t) f)) (next w (at t).position) ≡ true =
              All-contains (λ g. IsTrue (holds w (tree_at ns g) (next w (at t).position))) (go (at t)).cover.cover.postponed (get_or untils (count t) f) (go (at t)).cover.put_off_hold waits.put in
              let now : until_at w (holds w fails.first) (holds w fails.second) (next w (at t).position) ≡ true = sym (ap (λ tree. holds w tree (next w (at t).position)) fails.is) ∙ later in
              let comes : Comes w (holds w fails.first) (holds w fails.second) (next w (at t).position) = until_at-gives w (holds w fails.first) (holds w fails.second) (next w (at t).position) now in
              let there : holds w fails.second (after w (at (suc t)).position comes.0) ≡ true = subst (λ (k : ℕ). holds w fails.second (after w k comes.0) ≡ true) (sym (go (at t)).position_is) comes.1.comes in
              let more : IsHigher (count t) (suc t) = climb (count t) less fails.first fails.second fails.is comes.0 (suc t) waits.same there in
              let passed : suc t < more.time = more.later in
              record { time = more.time; later = omega arith; above = more.above }
        ]

    abbrev Ends : ℕ → Type 0
    Ends t = ComesToEnd untils (λ k. (at k).state) t

    top : (d t : ℕ) → count t < length untils → length untils ≤ count t + d → Ends t
    top zero t less near = absurd (omega arith)
    top (suc d) t less near =
        let h : IsHigher (count t) t = higher t less in
        let up : count t < count h.time = h.above in
        let most : count h.time ≤ length untils = (at h.time).counter in
        let passed : t < h.time = h.later in
        elim (cases_eq (count h.time) (length untils)) [
          | inl end ↦ record { time = h.time; later = h.later; ended = end }
          | inr other ↦
              let apart : count h.time ≡ length untils → ⊥ = other in
              let more : Ends h.time = top d h.time (omega arith) (omega arith) in
              let behind : h.time < more.time = more.later in
              record { time = more.time; later = omega arith; ended = more.ended }
        ]

    ends : (t : ℕ) → Ends t
    ends t =
        let most : count (suc t) ≤ length untils = (at (suc t)).counter in
        elim (cases_eq (count (suc t)) (length untils)) [
          | inl end ↦ record { time = suc t; later = omega arith; ended = end }
          | inr other ↦
              let apart : count (suc t) ≡ length untils → ⊥ = other in
              let more : Ends (suc t) = top (length untils) (suc t) (omega arith) (omega arith) in
              let behind : suc t < more.time = more.later in
              record { time = more.time; later = omega arith; ended = more.ended }
        ]

    position_at : first.position ≡ 0 → (t : ℕ) → (at t).position ≡ after w 0 t
    position_at begins zero = begins
    position_at begins (suc t) = (go (at t)).position_is ∙ ap (next w) (position_at begins t) ∙ sym (after-suc w 0 t)

    steps : first.position ≡ 0 → (t : ℕ) → IsStep covering ns untils (letter_at w (after w 0 t)) (at t).state (at (suc t)).state
    steps begins t = record {
      cover = (go (at t)).cover.cover;
      is_cover = (go (at t)).cover.is_cover;
      fits = subst (λ (i : ℕ). Fits (go (at t)).cover.cover.cube (letter_at w i)) (position_at begins t) (go (at t)).cover.met.fits;
      leads = (go (at t)).state_is;
    }

pub true_formulas_have_paths : TrueFormulasHavePaths
true_formulas_have_paths covering ns f w list stands normal ring true_at_start =
    let first : Pair covering ns list (untils_of ns f) w ring f = record {
      position = 0;
      state = start_state f;
      within = first_position w ring;
      true_here = All-cons (λ g. IsTrue (holds w (tree_at ns g) 0)) f [] true_at_start (All-nil (λ g. IsTrue (holds w (tree_at ns g) 0)));
      normal = start_normal ns f stands normal;
      counter = omega arith;
    } in
    record {
      state = λ t. (at covering ns list (untils_of ns f) w ring f first t).state;
      starts = refl;
      steps = steps covering ns list (untils_of ns f) w ring f first refl;
      ends = ends covering ns list (untils_of ns f) w ring f first;
    }
