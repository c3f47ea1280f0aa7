-- The edges of the named states, one state after the other.
use Rattle.std.proofs.Common.{◌≡◌, ◌==◌, ℕ, suc, ◌+◌, ◌<◌, ◌≤◌, Bool, true, false, cond, ltb, List, [], ◌∷◌, ◌++◌, length, get_or, map, take, refl, sym, ap, subst, ◌∙◌, arith, inl, inr, Some, None}
use Rattle.std.specs.Prelude.{All, unwrap_or}
use Rattle.std.specs.List.{position_or_len}
use Rattle.std.proofs.lemmas.Bool.{ltb-true}
use Rattle.std.proofs.lemmas.List.{append-nil, append_assoc, get_or-map, length-append, length-map, length-take-le, map_push, take_more}
use Rattle.std.proofs.lemmas.List.Elements.{All-append, All-cons}
use Rattle.ltl_formula.specs.declared.nodes.FormulaId.{FormulaId}
use Rattle.ltl_formula.specs.declared.nodes.Node.{Node}
use Rattle.obligation_sets.specs.declared.sets.Covering.{Covering}
use Rattle.obligation_sets.specs.declared.sets.Cover.{Cover}
use Rattle.obligation_sets.specs.Reduced.{covers_by}
use Rattle.machine_model.specs.declared.automata.AutomatonFault.{AutomatonFault}
use Rattle.machine_model.specs.declared.automata.Edge.{Edge}
use Rattle.machine_model.specs.Automaton.{AutomatonModel, HasBadEdge, JoinsStates, states_of}
use Rattle.cobuchi_build.specs.declared.exploring.State.{State}
use Rattle.cobuchi_build.specs.Explored.{same_state, state_after}
use Rattle.named_annotation.specs.NamedStates.{edge_of, edges_at, edges_from, number_of_state}

module _ (ns : List Node) (untils : List FormulaId) (states : List State) where
  -- the edges of one state more
  pub edges_push : (n : ℕ) (some : List State) (state : State)
      → edges_from ns untils states n (some ++ state ∷ []) ≡ edges_from ns untils states n some ++ edges_at ns untils states (n + length some) state
  edges_push n [] state =
      let place : n ≡ n + 0 = omega arith in
      append-nil (edges_at ns untils states n state) ∙ ap (λ k. edges_at ns untils states k state) place
  edges_push n (first ∷ more) state =
      let place : suc n + length more ≡ n + suc (length more) = omega arith in
      ap (λ es. edges_at ns untils states n first ++ es) (edges_push (suc n) more state)
      ∙ sym (append_assoc (edges_at ns untils states n first) (edges_from ns untils states (suc n) more) (edges_at ns untils states (suc n + length more) state))
      ∙ ap (λ k. (edges_at ns untils states n first ++ edges_from ns untils states (suc n) more) ++ edges_at ns untils states k state) place

  number_at_most : (state : State) (b : Bool) → ltb (position_or_len (same_state state) states) (length states) ≡ b → number_of_state states state < length states + 1
  number_at_most state true e =
      let within : position_or_len (same_state state) states < length states = ltb-true (position_or_len (same_state state) states) (length states) e in
      let is : number_of_state states state ≡ position_or_len (same_state state) states =
      ap (λ b. unwrap_or (cond b (Some (position_or_len (same_state state) states)) None) (length states)) e in
      omega (arith, is, within)
  number_at_most state false e =
      let is : number_of_state states state ≡ length states = ap (λ b. unwrap_or (cond b (Some (position_or_len (same_state state) states)) None) (length states)) e in
      omega (arith, is)

  pub number_within : (state : State) → number_of_state states state < length states + 1
  number_within state = number_at_most state (ltb (position_or_len (same_state state) states) (length states)) refl

  -- they join the named states and the last
  mapped_join : (n counter : ℕ) (covers : List Cover) → n < length states + 1 → All (JoinsStates (length states + 1)) (map (edge_of untils states n counter) covers)
  mapped_join n counter [] h = λ k d less. absurd (omega arith)
  mapped_join n counter (cover ∷ more) h =
      All-cons (JoinsStates (length states + 1)) (edge_of untils states n counter cover) (map (edge_of untils states n counter) more)
      (record { from = h; to = number_within (state_after untils counter cover) }) (mapped_join n counter more h)

  pub edges_join : (n : ℕ) (some : List State) → n + length some ≤ length states → All (JoinsStates (length states + 1)) (edges_from ns untils states n some)
  edges_join n [] h = λ k d less. absurd (omega arith)
  edges_join n (state ∷ more) h =
      All-append (JoinsStates (length states + 1)) (edges_at ns untils states n state) (edges_from ns untils states (suc n) more)
      (mapped_join n state.counter (covers_by Covering.Reduced ns state.set) (omega arith)) (edges_join (suc n) more (omega arith))

-- an automaton whose edges join its states has no bad one
pub none_bad : (a : AutomatonModel) (n : ℕ) → states_of a ≡ n → All (JoinsStates n) a.edges → HasBadEdge a → ⊥
none_bad a n size joined bad =
    let own : JoinsStates n bad.1 = subst (JoinsStates n) bad.3 (joined bad.0 bad.1 bad.2) in
    let from : bad.1.from < n = own.from in
    let to : bad.1.to < n = own.to in
    elim bad.4 [
      | inl low ↦ omega (arith, low, from, size)
      | inr low ↦ omega (arith, low, to, size)
    ]

-- so the automaton of the named states has no fault
pub no_fault : (ns : List Node) (untils : List FormulaId) (states : List State) (m : ℕ) (edges : List Edge) (rejecting : List Bool)
    → edges ≡ edges_from ns untils states 0 states → rejecting ≡ map (λ (state : State). state.counter == m) states ++ false ∷ [] → (fault : AutomatonFault)
    → (fault ≡ AutomatonFault.Empty → rejecting ≡ []) → (fault ≡ AutomatonFault.BadEdge → HasBadEdge (record { edges = edges; rejecting = rejecting })) → ⊥
no_fault ns untils states m edges rejecting of_states whose fault empty bad = by fault refl
  where
    count : length rejecting ≡ length states + 1
    count =
        ap length whose ∙ length-append (map (λ (state : State). state.counter == m) states) (false ∷ [])
        ∙ ap (λ n. n + 1) (length-map states (λ (state : State). state.counter == m))

    joined : All (JoinsStates (length states + 1)) edges
    joined = subst (λ (es : List Edge). All (JoinsStates (length states + 1)) es) (sym of_states) (edges_join ns untils states 0 states (omega arith))

    by : (x : AutomatonFault) → fault ≡ x → ⊥
    by AutomatonFault.Empty is =
        let none : length rejecting ≡ 0 = ap length (empty is) in
        absurd (omega (arith, none, count))
    by AutomatonFault.BadEdge is = none_bad (record { edges = edges; rejecting = rejecting }) (length states + 1) count joined (bad is)

-- ---- the loops

-- the edge of one cover more
module _ (untils : List FormulaId) (states : List State) (n counter : ℕ) (old edges new : List Edge) (covers : List Cover) (i : ℕ) (cover : Cover)
    (h : i < length covers) (here : cover ≡ get_or covers i cover) where
  pub edge_pushed : (target : State) (to : ℕ) → target ≡ state_after untils counter cover → to ≡ number_of_state states target
      → edges ≡ old ++ map (edge_of untils states n counter) (take i covers) → new ≡ edges ++ record { from = n; cube = cover.cube; to = to } ∷ []
      → new ≡ old ++ map (edge_of untils states n counter) (take (i + 1) covers)
  edge_pushed target to goes place so_far pushed =
      let to_is : to ≡ number_of_state states (state_after untils counter cover) = place ∙ ap (number_of_state states) goes in
      let one : ◌≡◌ {A = Edge} (record { from = n; cube = cover.cube; to = to }) (edge_of untils states n counter cover) =
      λ j. record { from = n; cube = cover.cube; to = to_is j } in
      let taken : take (i + 1) covers ≡ take i covers ++ cover ∷ [] = take_more covers i cover h ∙ ap (λ (d : Cover). take i covers ++ d ∷ []) (sym here) in
      pushed ∙ ap (λ (es : List Edge). es ++ record { from = n; cube = cover.cube; to = to } ∷ []) so_far
      ∙ ap (λ (e : Edge). (old ++ map (edge_of untils states n counter) (take i covers)) ++ e ∷ []) one
      ∙ append_assoc old (map (edge_of untils states n counter) (take i covers)) (edge_of untils states n counter cover ∷ [])
      ∙ ap (λ (es : List Edge). old ++ es) (sym (map_push (edge_of untils states n counter) (take i covers) cover) ∙ ap (map (edge_of untils states n counter)) (sym taken))

-- the covers of one state of those that are kept
module _ {V : Type 0} (items : V → List Cover) (ns : List Node) (kept : List V) (states : List State)
    (are : map items kept ≡ map (λ (s : State). covers_by Covering.Reduced ns s.set) states) where
  pub kept_count : length kept ≡ length states
  kept_count = sym (length-map kept items) ∙ ap length are ∙ length-map states (λ (s : State). covers_by Covering.Reduced ns s.set)

  pub covers_at : (i : ℕ) (own : V) (s : State) → i < length kept → own ≡ get_or kept i own → items own ≡ covers_by Covering.Reduced ns (get_or states i s).set
  covers_at i own s h at =
      ap items at ∙ sym (get_or-map items kept i own [] h) ∙ ap (λ (ls : List (List Cover)). get_or ls i []) are
      ∙ get_or-map (λ (s : State). covers_by Covering.Reduced ns s.set) states i s [] (rw (← kept_count) h)

-- the edges of one state more
pub edges_more : (ns : List Node) (untils : List FormulaId) (states : List State) (edges new : List Edge) (covers : List Cover) (counter i : ℕ) (s : State)
    → i < length states → edges ≡ edges_from ns untils states 0 (take i states) → covers ≡ covers_by Covering.Reduced ns (get_or states i s).set
    → counter ≡ (get_or states i s).counter → new ≡ edges ++ map (edge_of untils states i counter) covers
    → new ≡ edges_from ns untils states 0 (take (i + 1) states)
edges_more ns untils states edges new covers counter i s h so_far are count pushed =
    let size : length (take i states) ≡ i = length-take-le i states (omega arith) in
    let place : i ≡ 0 + length (take i states) = omega (arith, size) in
    pushed ∙ ap (λ (es : List Edge). es ++ map (edge_of untils states i counter) covers) so_far
    ∙ (λ j. edges_from ns untils states 0 (take i states) ++ map (edge_of untils states (place j) (count j)) (are j))
    ∙ sym (edges_push ns untils states 0 (take i states) (get_or states i s))
    ∙ ap (edges_from ns untils states 0) (sym (take_more states i s h))
