use Rattle.std.proofs.Common.{◌≡◌, ◌==◌, ◌⊎◌, inl, inr, ℕ, zero, suc, ◌-◌, ◌<◌, ◌≤◌, true, cond, eqb, ◌&&◌, List, [], ◌∷◌, Option, Some, None, All, drop, length, slice_get, refl, sym, ◌∙◌, ap, subst, arith}
use Rattle.std.specs.Prelude.{Contains, fold}
use Rattle.std.specs.List.{position_or_len}
use Rattle.std.proofs.lemmas.Bool.{and_parts, cases_eq, cond-true, cond-false, eq-eqb, eqb-true, ne_eqb}
use Rattle.std.proofs.lemmas.List.{length-drop}
use Rattle.std.proofs.lemmas.List.Elements.{All-cons, All-contains, All-nil}
use Rattle.std.proofs.lemmas.Option.{slice_get_within}
use Rattle.std.proofs.lemmas.List.Sums.{prefix_len-le-length}
use Rattle.std_lemmas.proofs.Lists.{Contains-cases, Contains-head, Contains-later, Contains-none, All-from_contains, Contains-slice_get}
use Rattle.ltl_formula.specs.declared.nodes.FormulaId.{FormulaId}
use Rattle.ltl_formula.specs.declared.nodes.Node.{Node}
use Rattle.ltl_formula.specs.Nodes.{IsNodeList}
use Rattle.obligation_sets.specs.declared.sets.Cover.{Cover}
use Rattle.obligation_sets.specs.declared.sets.Covering.{Covering}
use Rattle.obligation_sets.specs.Reduced.{covers_by}
use Rattle.obligation_sets.specs.Ids.{is_among, same_ids}
use Rattle.obligation_sets.specs.NextStep.{AreNormal}
use Rattle.obligation_sets.proofs.Cubes.{same_cube}
use Rattle.obligation_sets.proofs.Distinct.{all_from, all_in, same_ids-decides}
use Rattle.machine_model.specs.declared.automata.Edge.{Edge}
use Rattle.cobuchi_build.specs.declared.exploring.State.{State}
use Rattle.cobuchi_build.specs.Explored.{Explored, counter_after, expanding, explored, meeting, same_edge, same_state, start_state, state_after}
use Rattle.cobuchi_build.proofs.Growth.{IsPrefix-at, IsPrefix-before, IsPrefix-contains, insert_key-at}
use Rattle.obligation_sets.proofs.Kept.{next_normal}
use Rattle.cobuchi_build.proofs.Rounds.{GrowsTo, fold_grows}

state_of_parts : (s t : State) → s.set ≡ t.set → s.counter ≡ t.counter → s ≡ t
state_of_parts s t p q = λ i. record { set = p i; counter = q i }

state_parts : (s t : State) → (same_ids s.set t.set && eqb s.counter t.counter) ≡ true → s ≡ t
state_parts s t h =
    let parts : (same_ids s.set t.set ≡ true) × (eqb s.counter t.counter ≡ true) = and_parts _ _ h in
    state_of_parts s t (same_ids-decides s.set t.set parts.0) (eqb-true s.counter t.counter parts.1)

pub same_state-decides : (s t : State) → same_state s t ≡ true → s ≡ t
same_state-decides s t h = state_parts s t h

edge_of_parts : (d e : Edge) → d.from ≡ e.from → d.cube ≡ e.cube → d.to ≡ e.to → d ≡ e
edge_of_parts d e p q r = λ i. record { from = p i; cube = q i; to = r i }

edge_parts : (d e : Edge) → (eqb d.from e.from && ((eqb d.cube.must e.cube.must && eqb d.cube.not e.cube.not) && eqb d.to e.to)) ≡ true → d ≡ e
edge_parts d e h =
    let first : (eqb d.from e.from ≡ true) × (((eqb d.cube.must e.cube.must && eqb d.cube.not e.cube.not) && eqb d.to e.to) ≡ true) = and_parts _ _ h in
    let second : ((eqb d.cube.must e.cube.must && eqb d.cube.not e.cube.not) ≡ true) × (eqb d.to e.to ≡ true) = and_parts _ _ first.1 in
    let cube : (eqb d.cube.must e.cube.must ≡ true) × (eqb d.cube.not e.cube.not ≡ true) = and_parts _ _ second.0 in
    edge_of_parts d e (eqb-true d.from e.from first.0) (same_cube d.cube e.cube (eqb-true d.cube.must e.cube.must cube.0) (eqb-true d.cube.not e.cube.not cube.1)) (eqb-true d.to e.to second.1)

pub same_edge-decides : (d e : Edge) → same_edge d e ≡ true → d ≡ e
same_edge-decides d e h = edge_parts d e h

-- where the counter goes on from
abbrev pub begin_of : List FormulaId → ℕ → ℕ
begin_of untils counter = cond (counter == length untils) 0 counter

pub begin_within : (untils : List FormulaId) (counter : ℕ) → counter ≤ length untils → begin_of untils counter ≤ length untils
begin_within untils counter h =
    elim (cases_eq counter (length untils)) [
      | inl last ↦ rw (cond-true (eqb counter (length untils)) 0 counter (eq-eqb counter (length untils) last)) (omega arith)
      | inr other ↦ rw (cond-false (eqb counter (length untils)) 0 counter (ne_eqb counter (length untils) other)) h
    ]

pub counter_within : (untils : List FormulaId) (counter : ℕ) (postponed : List FormulaId) → counter ≤ length untils → counter_after untils counter postponed ≤ length untils
counter_within untils counter postponed h =
    let b : begin_of untils counter ≤ length untils = begin_within untils counter h in
    let r : position_or_len (is_among postponed) (drop (begin_of untils counter) untils) ≤ length (drop (begin_of untils counter) untils) =
    prefix_len-le-length _ (drop (begin_of untils counter) untils) in
    let l : length (drop (begin_of untils counter) untils) ≡ length untils - begin_of untils counter = length-drop (begin_of untils counter) untils in
    omega arith

module _ (covering : Covering) (ns : List Node) (untils : List FormulaId) where
  -- the edge comes from a cover of its source
  pub record FromCover (found : Explored) (e : Edge) : Type 0 where
    pub state : State
    pub at : slice_get found.states e.from ≡ Some state
    pub cover : Cover
    pub is_cover : Contains (covers_by covering ns state.set) cover
    pub cube : e.cube ≡ cover.cube
    pub target : slice_get found.states e.to ≡ Some (state_after untils state.counter cover)

  -- the cover of the state at this place has its edge and its target
  pub record HasCover (found : Explored) (number counter : ℕ) (c : Cover) : Type 0 where
    pub to : ℕ
    pub target : slice_get found.states to ≡ Some (state_after untils counter c)
    pub edge : Contains found.edges (record { from = number; cube = c.cube; to = to })

  -- a set in normal form and a counter in range
  pub record IsGood (s : State) : Type 0 where
    pub normal : AreNormal ns s.set
    pub counter : s.counter ≤ length untils

  FromCover-grown : (a b : Explored) (e : Edge) → GrowsTo a b → FromCover a e → FromCover b e
  FromCover-grown a b e g h = record {
    state = h.state;
    at = IsPrefix-at a.states b.states e.from h.state g.states h.at;
    cover = h.cover;
    is_cover = h.is_cover;
    cube = h.cube;
    target = IsPrefix-at a.states b.states e.to (state_after untils h.state.counter h.cover) g.states h.target;
  }

  HasCover-grown : (a b : Explored) (number counter : ℕ) (c : Cover) → GrowsTo a b → HasCover a number counter c → HasCover b number counter c
  HasCover-grown a b number counter c g h = record {
    to = h.to;
    target = IsPrefix-at a.states b.states h.to (state_after untils counter c) g.states h.target;
    edge = IsPrefix-contains a.edges b.edges (record { from = number; cube = c.cube; to = h.to }) g.edges h.edge;
  }

  module _ (number counter : ℕ) where
    abbrev met : Explored → Cover → Explored
    met = meeting untils number counter

    abbrev target_of : Cover → State
    target_of c = state_after untils counter c

    abbrev edge_of : Explored → Cover → Edge
    edge_of found c = record { from = number; cube = c.cube; to = position_or_len (same_state (target_of c)) found.states }

    target_at : (found : Explored) (c : Cover) → slice_get (met found c).states (position_or_len (same_state (target_of c)) found.states) ≡ Some (target_of c)
    target_at found c = insert_key-at same_state same_state-decides found.states (target_of c)

    edge_in : (found : Explored) (c : Cover) → Contains (met found c).edges (edge_of found c)
    edge_in found c = all_in same_edge same_edge-decides found.edges (edge_of found c ∷ []) (edge_of found c) (Contains-head (edge_of found c) [])

    edge_cases : (found : Explored) (c : Cover) (e : Edge) → Contains (met found c).edges e → Contains found.edges e ⊎ (edge_of found c ≡ e)
    edge_cases found c e h =
        elim (all_from same_edge found.edges (edge_of found c ∷ []) e h) [
          | inl old ↦ inl old
          | inr new ↦ elim (Contains-cases (edge_of found c) [] e new) [ inl same ↦ inr same | inr none ↦ absurd (Contains-none e none) ]
        ]

    -- the edge is that of one of these covers
    record Made (cs : List Cover) (found : Explored) (e : Edge) : Type 0 where
      cover : Cover
      among : Contains cs cover
      from : e.from ≡ number
      cube : e.cube ≡ cover.cube
      target : slice_get found.states e.to ≡ Some (target_of cover)

    fold_edges : (found : Explored) (cs : List Cover) (e : Edge) → Contains (fold met found cs).edges e → Contains found.edges e ⊎ Made cs (fold met found cs) e
    fold_edges found [] e h = inl h
    fold_edges found (c ∷ cs) e h =
        elim (fold_edges (met found c) cs e h) [
          | inr made ↦ inr (record { cover = made.cover; among = Contains-later c cs made.cover made.among; from = made.from; cube = made.cube; target = made.target })
          | inl before ↦ elim (edge_cases found c e before) [
            | inl old ↦ inl old
            | inr same ↦
                let grown : GrowsTo (met found c) (fold met (met found c) cs) = fold_grows untils number counter (met found c) cs in
                inr (subst (λ (d : Edge). Made (c ∷ cs) (fold met (met found c) cs) d) same (record {
                  cover = c;
                  among = Contains-head c cs;
                  from = refl;
                  cube = refl;
                  target = IsPrefix-at (met found c).states (fold met (met found c) cs).states (position_or_len (same_state (target_of c)) found.states) (target_of c) grown.states (target_at found c);
                }))
          ]
        ]

    fold_covers : (found : Explored) (cs : List Cover) (c : Cover) → Contains cs c → HasCover (fold met found cs) number counter c
    fold_covers found [] c h = absurd (Contains-none c h)
    fold_covers found (d ∷ cs) c h =
        elim (Contains-cases d cs c h) [
          | inl same ↦
              subst (λ (x : Cover). HasCover (fold met (met found d) cs) number counter x) same
              (HasCover-grown (met found d) (fold met (met found d) cs) number counter d (fold_grows untils number counter (met found d) cs)
              (record { to = position_or_len (same_state (target_of d)) found.states; target = target_at found d; edge = edge_in found d }))
          | inr later ↦ fold_covers (met found d) cs c later
        ]

    fold_good : (found : Explored) (cs : List Cover) → ((c : Cover) → Contains cs c → IsGood (target_of c)) → All IsGood found.states → All IsGood (fold met found cs).states
    fold_good found [] each all = all
    fold_good found (c ∷ cs) each all =
        fold_good (met found c) cs (λ d h. each d (Contains-later c cs d h))
        (All-from_contains IsGood (met found c).states (λ s h.
        elim (all_from same_state found.states (target_of c ∷ []) s h) [
          | inl old ↦ All-contains IsGood found.states s all old
          | inr new ↦ elim (Contains-cases (target_of c) [] s new) [
            | inl same ↦ subst IsGood same (each c (Contains-head c cs))
            | inr none ↦ absurd (Contains-none s none)
          ]
        ]))

  -- what holds of all that was met once the states with numbers below n were expanded
  pub record IsSound (f : FormulaId) (n : ℕ) (found : Explored) : Type 0 where
    pub start : slice_get found.states 0 ≡ Some (start_state f)
    pub edges : (e : Edge) → Contains found.edges e → FromCover found e
    pub covers : (q : ℕ) (s : State) → q < n → slice_get found.states q ≡ Some s → (c : Cover) → Contains (covers_by covering ns s.set) c → HasCover found q s.counter c
    pub good : All IsGood found.states

  module _ (list : IsNodeList ns) (f : FormulaId) where
    target_good : (s : State) → IsGood s → (c : Cover) → Contains (covers_by covering ns s.set) c → IsGood (state_after untils s.counter c)
    target_good s good c h = record { normal = next_normal ns list covering s.set good.normal c h; counter = counter_within untils s.counter c.postponed good.counter }

    sound_round : (n : ℕ) (found : Explored) → IsSound f n found → (o : Option State) → slice_get found.states n ≡ o → IsSound f (suc n) (expanding covering ns untils n found o)
    sound_round n found sound None is = record {
      start = sound.start;
      edges = sound.edges;
      covers = λ q s h at c there.
          elim (cases_eq q n) [
            | inl same ↦ absurd (let e : Some s ≡ None = sym at ∙ ap (slice_get found.states) same ∙ is in let contra : ⊥ = cc in contra)
            | inr other ↦ sound.covers q s (let apart : q ≡ n → ⊥ = other in omega arith) at c there
          ];
      good = sound.good;
    }
    sound_round n found sound (Some state) is =
        let new : Explored = fold (meeting untils n state.counter) found (covers_by covering ns state.set) in
        let grown : GrowsTo found new = fold_grows untils n state.counter found (covers_by covering ns state.set) in
        let good : IsGood state = All-at n state is sound.good in
        record {
          start = IsPrefix-at found.states new.states 0 (start_state f) grown.states sound.start;
          edges = λ e h.
              elim (fold_edges n state.counter found (covers_by covering ns state.set) e h) [
                | inl old ↦ FromCover-grown found new e grown (sound.edges e old)
                | inr made ↦ record {
                  state = state;
                  at = ap (slice_get new.states) made.from ∙ IsPrefix-at found.states new.states n state grown.states is;
                  cover = made.cover;
                  is_cover = made.among;
                  cube = made.cube;
                  target = made.target;
                }
              ];
          covers = λ q s h at c there.
              elim (cases_eq q n) [
                | inl same ↦
                    let here : Some s ≡ Some state = sym at ∙ ap (slice_get new.states) same ∙ IsPrefix-at found.states new.states n state grown.states is in
                    let is_state : s ≡ state = cc in
                    subst (λ (k : ℕ). HasCover new k s.counter c) (sym same)
                    (subst (λ (t : State). HasCover new n t.counter c) (sym is_state)
                    (fold_covers n state.counter found (covers_by covering ns state.set) c (subst (λ (t : State). Contains (covers_by covering ns t.set) c) is_state there)))
                | inr other ↦ earlier q s (let apart : q ≡ n → ⊥ = other in omega arith) at c there
              ];
          good = fold_good n state.counter found (covers_by covering ns state.set) (λ c h. target_good state good c h) sound.good;
        }
      where
        All-at : (k : ℕ) (s : State) → slice_get found.states k ≡ Some s → All IsGood found.states → IsGood s
        All-at k s at all = All-contains IsGood found.states s all (Contains-slice_get found.states k s at)

        earlier : (q : ℕ) (s : State) → q < n → slice_get (fold (meeting untils n state.counter) found (covers_by covering ns state.set)).states q ≡ Some s → (c : Cover) → Contains (covers_by covering ns s.set) c → HasCover (fold (meeting untils n state.counter) found (covers_by covering ns state.set)) q s.counter c
        earlier q s less at c there =
            let grown : GrowsTo found (fold (meeting untils n state.counter) found (covers_by covering ns state.set)) = fold_grows untils n state.counter found (covers_by covering ns state.set) in
            let within : n < length found.states = slice_get_within found.states n state is in
            HasCover-grown found (fold (meeting untils n state.counter) found (covers_by covering ns state.set)) q s.counter c grown
            (sound.covers q s less (IsPrefix-before found.states _ q s grown.states (omega arith) at) c there)

    -- all that is ever met is sound
    pub explored_sound : AreNormal ns (f ∷ []) → (n : ℕ) → IsSound f n (explored covering ns untils f n)
    explored_sound normal zero = record {
      start = refl;
      edges = λ e h. absurd (Contains-none e h);
      covers = λ q s less at c there. absurd (omega arith);
      good = All-cons IsGood (start_state f) [] (record { normal = normal; counter = omega arith }) (All-nil IsGood);
    }
    explored_sound normal (suc n) = sound_round n (explored covering ns untils f n) (explored_sound normal n) (slice_get (explored covering ns untils f n).states n) refl
