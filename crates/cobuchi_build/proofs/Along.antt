use Rattle.std.proofs.Common.{◌≡◌, ◌==◌, ◌⊎◌, inl, inr, ℕ, zero, suc, ◌+◌, ◌<◌, ◌≤◌, ◌^◌, Bool, true, false, cond, List, [], ◌∷◌, Some, None, All, filter, get_or, length, map, Result, slice_get, replicate, refl, sym, ◌∙◌, ap, subst, arith, Err, add-one}
use Rattle.std.specs.Prelude.{Contains, fold}
use Rattle.std.proofs.lemmas.Bool.{cases_eq, cases_lt}
use Rattle.std.proofs.lemmas.List.{length-map, length-replicate, length-set}
use Rattle.std.proofs.lemmas.List.Elements.{All-contains, All-cons, All-nil, All-weaker}
use Rattle.std.proofs.lemmas.Option.{get_or_from_slice_get, slice_get-get_or, slice_get_read, slice_get_within}
use Rattle.std_lemmas.proofs.Lists.{Contains-slice_get}
use Rattle.ltl_formula.specs.declared.nodes.FormulaId.{FormulaId}
use Rattle.ltl_formula.specs.declared.nodes.Node.{Node}
use Rattle.ltl_formula.specs.declared.nodes.TheConstants.{MAX_NODES}
use Rattle.ltl_formula.specs.NormalForm.{IsNormal}
use Rattle.ltl_formula.specs.Nodes.{IsNodeList, IsNodeIn, node_at, tree_at}
use Rattle.obligation_sets.specs.declared.sets.Cover.{Cover}
use Rattle.obligation_sets.specs.declared.sets.Covering.{Covering}
use Rattle.obligation_sets.specs.Covers.{set_leaves}
use Rattle.obligation_sets.specs.Reduced.{covers_by}
use Rattle.obligation_sets.specs.Ids.{ids_from, ids_of, with_id}
use Rattle.obligation_sets.specs.NextStep.{AreNormal}
use Rattle.obligation_sets.specs.declared.cover_search.CoverFault.{CoverFault}
use Rattle.machine_model.specs.declared.automata.AutomatonFault.{AutomatonFault}
use Rattle.machine_model.specs.declared.automata.Edge.{Edge}
use Rattle.machine_model.specs.Automaton.{AutomatonModel, HasBadEdge}
use Rattle.cobuchi_build.specs.declared.building.BuildFault.{BuildFault}
use Rattle.text_limits.specs.declared.AutomatonLimits.{AutomatonLimits}
use Rattle.cobuchi_build.specs.declared.exploring.State.{State}
use Rattle.cobuchi_build.specs.Built.{IsAutomatonOf, IsFinished, IsTooLarge, PassesLimit, fault_of}
use Rattle.cobuchi_build.specs.Explored.{Explored, expanding, explored, meeting, next_round, start_state, state_after}
use Rattle.cobuchi_build.specs.Occurring.{is_until, marked_down, occurring, operands_of, untils_of, with_parts}
use Rattle.cobuchi_build.specs.Sizes.{HasRoom, HasTooMany}
use Rattle.cobuchi_build.proofs.Growth.{IsPrefix-at, IsPrefix-before, IsPrefix-length}
use Rattle.cobuchi_build.proofs.Rounds.{GrowsTo, GrowsTo-refl, closed_upto, explored_upto, fold_grows}
use Rattle.cobuchi_build.proofs.Sound.{FromCover, IsGood, IsSound, explored_sound}
use Rattle.obligation_sets.proofs.Flags.{fold_length}

pub start_normal : (ns : List Node) (f : FormulaId) → IsNodeIn ns f → IsNormal (tree_at ns f) → AreNormal ns (f ∷ [])
start_normal ns f stands normal = All-cons (λ g. IsNodeIn ns g × IsNormal (tree_at ns g)) f [] (stands, normal) (All-nil (λ g. IsNodeIn ns g × IsNormal (tree_at ns g)))

-- no state at all is allowed
pub none_allowed : (covering : Covering) (limits : AutomatonLimits) (ns : List Node) (f : FormulaId) → limits.states ≡ 0 → PassesLimit covering limits ns f
none_allowed covering limits ns f none = record { rounds = 0; passes = inl (inl (omega arith)) }

-- how far the exploration is
pub record IsAlong (covering : Covering) (limits : AutomatonLimits) (ns : List Node) (untils : List FormulaId) (f : FormulaId) (number : ℕ) (found : Explored) : Type 0 where
  pub met : found ≡ explored covering ns untils f number
  pub room : HasRoom limits found
  pub leaves : (q : ℕ) (s : State) → q < number → slice_get found.states q ≡ Some s → length (set_leaves ns s.set) ≤ 100000

pub along_start : (covering : Covering) (limits : AutomatonLimits) → 0 < limits.states → (ns : List Node) (untils : List FormulaId) (f : FormulaId) (found : Explored) → found ≡ record { states = start_state f ∷ []; edges = [] } → IsAlong covering limits ns untils f 0 found
along_start covering limits some ns untils f found e = record {
  met = e;
  room = subst (HasRoom limits) (sym e) (record { states = omega arith; edges = omega arith });
  leaves = λ q s less at. absurd (omega arith);
}

module _ (covering : Covering) (limits : AutomatonLimits) (ns : List Node) (list : IsNodeList ns) (f : FormulaId) (stands : IsNodeIn ns f) (normal : IsNormal (tree_at ns f)) (untils : List FormulaId) (number : ℕ) (found : Explored) (along : IsAlong covering limits ns untils f number found) where
  sound : IsSound covering ns untils f number found
  sound = subst (λ (x : Explored). IsSound covering ns untils f number x) (sym along.met) (explored_sound covering ns untils list f (start_normal ns f stands normal) number)

  module _ (state : State) (at : slice_get found.states number ≡ Some state) where
    state_good : IsGood covering ns untils state
    state_good = All-contains (IsGood covering ns untils) found.states state sound.good (Contains-slice_get found.states number state at)

    pub state_stands : All (IsNodeIn ns) state.set
    state_stands = All-weaker (λ g. IsNodeIn ns g × IsNormal (tree_at ns g)) (IsNodeIn ns) (λ g h. h.0) state.set state_good.normal

    pub state_counter : state.counter ≤ length untils
    state_counter = state_good.counter

    pub number_few : number < limits.states
    number_few = let h : number < length found.states = slice_get_within found.states number state at in let r : length found.states ≤ limits.states = along.room.states in omega arith

    -- what the covers of the state add is one more round
    pub round_is : (covers : List Cover) → covers ≡ covers_by covering ns state.set → fold (meeting untils number state.counter) found covers ≡ explored covering ns untils f (suc number)
    round_is covers is =
        ap (fold (meeting untils number state.counter) found) is
        ∙ ap (expanding covering ns untils number found) (sym at)
        ∙ ap (next_round covering ns untils number) along.met

    pub along_next : (covers : List Cover) (new : Explored) → covers ≡ covers_by covering ns state.set → length (set_leaves ns state.set) ≤ 100000 → new ≡ fold (meeting untils number state.counter) found covers → HasRoom limits new → IsAlong covering limits ns untils f (number + 1) new
    along_next covers new is few goes room = record {
      met = goes ∙ round_is covers is ∙ ap (explored covering ns untils f) (sym (add-one number));
      room = room;
      leaves = λ q s less there.
          let grown : GrowsTo found new = subst (λ (x : Explored). GrowsTo found x) (sym goes) (fold_grows untils number state.counter found covers) in
          let within : number < length found.states = slice_get_within found.states number state at in
          let before : slice_get found.states q ≡ Some s = IsPrefix-before found.states new.states q s grown.states (omega arith) there in
          elim (cases_eq q number) [
            | inl same ↦
                let here : Some s ≡ Some state = sym before ∙ ap (slice_get found.states) same ∙ at in
                let is_state : s ≡ state = cc in
                subst (λ (t : State). length (set_leaves ns t.set) ≤ 100000) (sym is_state) few
            | inr other ↦ along.leaves q s (let apart : q ≡ number → ⊥ = other in omega arith) before
          ];
    }

    pub too_many_leaves : untils ≡ untils_of ns f → 100000 < length (set_leaves ns state.set) → PassesLimit covering limits ns f
    too_many_leaves same many = record {
      rounds = number;
      passes = subst (IsTooLarge limits ns) (along.met ∙ ap (λ us. explored covering ns us f number) same)
          (inr (number, state, slice_get_within found.states number state at, get_or_from_slice_get found.states number state state at, many));
    }

    pub too_many_met : untils ≡ untils_of ns f → (covers : List Cover) → covers ≡ covers_by covering ns state.set → HasTooMany limits (fold (meeting untils number state.counter) found covers) → PassesLimit covering limits ns f
    too_many_met same covers is many = record {
      rounds = suc number;
      passes = inl (subst (HasTooMany limits) (round_is covers is ∙ ap (λ us. explored covering ns us f (suc number)) same) many);
    }

  module _ (same : untils ≡ untils_of ns f) (none : slice_get found.states number ≡ None) where
    left_none : length found.states ≤ number
    left_none =
        elim (cases_lt number (length found.states)) [
          | inl less ↦ absurd (let r : Some (get_or found.states number (start_state f)) ≡ None = sym (slice_get-get_or found.states number (start_state f) less) ∙ none in let contra : ⊥ = cc in contra)
          | inr more ↦ more
        ]

    met_same : found ≡ explored covering ns (untils_of ns f) f number
    met_same = along.met ∙ ap (λ us. explored covering ns us f number) same

    pub along_end : IsFinished covering ns f found
    along_end = record { rounds = number; all = left_none; is = met_same }

    -- whatever is met after some rounds is among all that is met
    all_met : (n : ℕ) → GrowsTo (explored covering ns (untils_of ns f) f n) found
    all_met n =
        elim (cases_lt n number) [
          | inl less ↦ subst (λ (x : Explored). GrowsTo (explored covering ns (untils_of ns f) f n) x) (sym met_same) (explored_upto covering ns (untils_of ns f) f n number (omega arith))
          | inr more ↦
              let closed : length (explored covering ns (untils_of ns f) f number).states ≤ number = subst (λ (x : Explored). length x.states ≤ number) met_same left_none in
              let e : explored covering ns (untils_of ns f) f n ≡ found = closed_upto covering ns (untils_of ns f) f number n more closed ∙ sym met_same in
              subst (λ (x : Explored). GrowsTo x found) (sym e) (GrowsTo-refl found)
        ]

    pub within_limits : PassesLimit covering limits ns f → ⊥
    within_limits passes = refuse (explored covering ns (untils_of ns f) f passes.rounds) (all_met passes.rounds) passes.passes
      where
        refuse : (x : Explored) → GrowsTo x found → IsTooLarge limits ns x → ⊥
        refuse x g (inl (inl many)) = let r : length found.states ≤ limits.states = along.room.states in omega (arith, IsPrefix-length x.states found.states g.states)
        refuse x g (inl (inr many)) = let r : length found.edges ≤ limits.edges = along.room.edges in omega (arith, IsPrefix-length x.edges found.edges g.edges)
        refuse x g (inr (k, s, within, at, many)) =
            let there : slice_get found.states k ≡ Some s = IsPrefix-at x.states found.states k s g.states (slice_get_read x.states (length x.states) k s refl within (sym at)) in
            let inside : k < length found.states = slice_get_within found.states k s there in
            let few : length (set_leaves ns s.set) ≤ 100000 = along.leaves k s (omega (arith, left_none)) there in
            omega arith

either_length : (flags more : List Bool) (b : Bool) → length more ≡ length flags → length (cond b more flags) ≡ length flags
either_length flags more true e = e
either_length flags more false e = refl

length-marked_down : (ns : List Node) (n : ℕ) (flags : List Bool) → length (marked_down ns n flags) ≡ length flags
length-marked_down ns zero flags = refl
length-marked_down ns (suc n) flags =
    length-marked_down ns n (cond (get_or flags n false) (with_parts flags (node_at ns n)) flags)
    ∙ either_length flags (with_parts flags (node_at ns n)) (get_or flags n false) (fold_length flags (operands_of (node_at ns n)))

ids_short : (k : ℕ) (flags : List Bool) → length (ids_from k flags) ≤ length flags
ids_short k [] = omega arith
ids_short k (true ∷ flags) = let h : length (ids_from (suc k) flags) ≤ length flags = ids_short (suc k) flags in omega arith
ids_short k (false ∷ flags) = let h : length (ids_from (suc k) flags) ≤ length flags = ids_short (suc k) flags in omega arith

one_short : (b : Bool) (g : FormulaId) (xs ys : List FormulaId) → length ys ≤ length xs → length (cond b (g ∷ ys) ys) ≤ suc (length xs)
one_short true g xs ys h = omega arith
one_short false g xs ys h = omega arith

filter_short : (p : FormulaId → Bool) (gs : List FormulaId) → length (filter p gs) ≤ length gs
filter_short p [] = omega arith
filter_short p (g ∷ gs) = one_short (p g) g gs (filter p gs) (filter_short p gs)

untils_few : (ns : List Node) (f : FormulaId) → IsNodeList ns → length (untils_of ns f) ≤ MAX_NODES
untils_few ns f list =
    let flags : List Bool = with_id (replicate (length ns) false) f in
    let most : length ns ≤ MAX_NODES = list.most in
    let a : length (untils_of ns f) ≤ length (ids_of (occurring ns f)) = filter_short (λ g. is_until (node_at ns g.0)) (ids_of (occurring ns f)) in
    let b : length (ids_of (occurring ns f)) ≤ length (occurring ns f) = ids_short 0 (occurring ns f) in
    let c : length (occurring ns f) ≡ length flags = length-marked_down ns (length ns) flags in
    let d : length flags ≡ length (replicate (length ns) false) = length-set (replicate (length ns) false) f.0 true in
    let e : length (replicate (length ns) false) ≡ length ns = length-replicate (length ns) false in
    omega arith

pub untils_most : (ns : List Node) (f : FormulaId) (untils : List FormulaId) → IsNodeList ns → untils ≡ untils_of ns f → length untils ≤ MAX_NODES
untils_most ns f untils list e = subst (λ (us : List FormulaId). length us ≤ MAX_NODES) (sym e) (untils_few ns f list)

pub untils_below : (ns : List Node) (f : FormulaId) (untils : List FormulaId) → IsNodeList ns → untils ≡ untils_of ns f → length untils < 2 ^ 32
untils_below ns f untils list e = let h : length untils ≤ MAX_NODES = untils_most ns f untils list e in omega (arith, h)

-- of the faults of covers only too many leaves makes the automaton too large
fault_by : (fault : CoverFault) → fault_of fault ≡ BuildFault.TooLarge → fault ≡ CoverFault.TooManyLeaves
fault_by CoverFault.TooManyLeaves e = refl
fault_by CoverFault.NoMemory e = cc

pub leaves_fault : {T : Type 0} (fault : CoverFault) (made : BuildFault) (r : Result T BuildFault) → r ≡ Err made → made ≡ fault_of fault → r ≡ Err BuildFault.TooLarge → fault ≡ CoverFault.TooManyLeaves
leaves_fault fault made r is from large = let e : fault_of fault ≡ BuildFault.TooLarge = cc in fault_by fault e

pub same_fault : {T : Type 0} (fault made : BuildFault) (r : Result T BuildFault) → r ≡ Err made → made ≡ fault → r ≡ Err BuildFault.TooLarge → fault ≡ BuildFault.TooLarge
same_fault fault made r is from large = cc

-- the parts of what was found are the automaton
pub built_is : (covering : Covering) (ns : List Node) (f : FormulaId) (found : Explored) (untils : List FormulaId) (m : ℕ) (a : AutomatonModel) (edges : List Edge) (rejecting : List Bool) → IsFinished covering ns f found → untils ≡ untils_of ns f → m ≡ length untils → edges ≡ found.edges → rejecting ≡ map (λ state. state.counter == m) found.states → a ≡ record { edges = edges; rejecting = rejecting } → IsAutomatonOf covering ns f a
built_is covering ns f found untils m a edges rejecting finished same count e r is = record {
  found = found;
  finished = finished;
  is = is ∙ (λ i. record { edges = e i; rejecting = (r ∙ ap (λ k. map (λ (state : State). state.counter == k) found.states) (count ∙ ap length same)) i });
}

-- there is a state, and each edge joins states
pub no_fault : (covering : Covering) (ns : List Node) (f : FormulaId) (found : Explored) (m : ℕ) (edges : List Edge) (rejecting : List Bool) → IsNodeList ns → IsNodeIn ns f → IsNormal (tree_at ns f) → IsFinished covering ns f found → edges ≡ found.edges → rejecting ≡ map (λ state. state.counter == m) found.states → (fault : AutomatonFault) → (fault ≡ AutomatonFault.Empty → rejecting ≡ []) → (fault ≡ AutomatonFault.BadEdge → HasBadEdge (record { edges = edges; rejecting = rejecting })) → ⊥
no_fault covering ns f found m edges rejecting list stands normal finished e r fault empty bad = by fault refl
  where
    sound_end : IsSound covering ns (untils_of ns f) f finished.rounds found
    sound_end = subst (λ (x : Explored). IsSound covering ns (untils_of ns f) f finished.rounds x) (sym finished.is) (explored_sound covering ns (untils_of ns f) list f (start_normal ns f stands normal) finished.rounds)

    count : length rejecting ≡ length found.states
    count = ap length r ∙ length-map found.states (λ (state : State). state.counter == m)

    joins : (x : Edge) → Contains edges x → (x.from < length found.states) × (x.to < length found.states)
    joins x there =
        let from : FromCover covering ns (untils_of ns f) found x = sound_end.edges x (subst (λ (l : List Edge). Contains l x) e there) in
        (slice_get_within found.states x.from from.state from.at, slice_get_within found.states x.to (state_after (untils_of ns f) from.state.counter from.cover) from.target)

    ends : (x : Edge) → Contains edges x → (length rejecting ≤ x.from) ⊎ (length rejecting ≤ x.to) → ⊥
    ends x there (inl past) = let h : x.from < length found.states = (joins x there).0 in omega (arith, count)
    ends x there (inr past) = let h : x.to < length found.states = (joins x there).1 in omega (arith, count)

    by : (x : AutomatonFault) → fault ≡ x → ⊥
    by AutomatonFault.Empty is =
        let none : rejecting ≡ [] = empty is in
        let no_states : length rejecting ≡ 0 = ap length none in
        let some : 0 < length found.states = slice_get_within found.states 0 (start_state f) sound_end.start in
        omega (arith, count)
    by AutomatonFault.BadEdge is = let h : HasBadEdge (record { edges = edges; rejecting = rejecting }) = bad is in ends h.1 (h.0, h.2, h.3) h.4
