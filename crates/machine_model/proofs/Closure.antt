-- Sets of states that are closed one middle state after the other.
use Rattle.std.proofs.Common.{◌≡◌, ◌==◌, ℕ, zero, suc, ◌+◌, ◌<◌, ◌≤◌, ◌⊎◌, inl, inr, Bool, true, false, refl, sym, ◌∙◌, ap, subst, List, [], length, get_or, take, arith, get_or-set_same, get_or-set_other, length-set}
use Rattle.std.specs.Prelude.{◌&&◌, ◌||◌, Contains, slice_set}
use Rattle.std.proofs.lemmas.Bool.{and_from, and_parts, cases_eq, eq-eqb, eqb-true, ne_eqb, or_cases, or_left, or_right}
use Rattle.std.proofs.lemmas.Bool.Decides.{same_from_decides}
use Rattle.std.proofs.lemmas.List.Elements.{All-contains}
use Rattle.std.proofs.lemmas.List.Folds.{list_any_more}
use mathlib.Core.Bool.{or_assoc}
use Rattle.machine_model.specs.Automaton.{AutomatonModel, IsAutomaton, JoinsStates, states_of}
use Rattle.machine_model.specs.Components.{is_reached}
use Rattle.machine_model.specs.Reached.{ArePassedOn, AreReached, HasAlso, HasEdges, IsPassed, is_edge, is_in, leads}
use Rattle.machine_model.specs.declared.automata.Edge.{Edge}
use Rattle.machine_model.specs.declared.reached.StateSet.{StateSet}
use Rattle.machine_model.proofs.Reachability.{HasEdgeOf, at_once, from_edge, goes_on, last_edge, last_or_less, no_edge, reached_on, reached_within, some_edge}

-- the set that stands past the end
abbrev none : StateSet
none = record { words = [] }

-- the first sets got what the set of state k has, and the others are as they were
pub record ArePassedBelow (place k : ℕ) (old new : List StateSet) : Type 0 where
  pub places : length new ≡ length old
  pub done : (q : ℕ) → q < place → IsPassed k (get_or old k none).words (get_or old q none).words (get_or new q none).words
  pub kept : (q : ℕ) → place ≤ q → get_or new q none ≡ get_or old q none

-- each set has the state itself and those that one of the edges leads to
pub record HaveEdges (n : ℕ) (edges : List Edge) (sets : List StateSet) : Type 0 where
  pub places : length sets ≡ n
  pub at : (q r : ℕ) → q < n → leads sets q r ≡ ((r == q) || is_edge edges q r)

-- each set has what its own states lead to, if these are below k
pub record IsClosedBelow (a : AutomatonModel) (k : ℕ) (sets : List StateSet) : Type 0 where
  pub places : length sets ≡ states_of a
  pub self : (q : ℕ) → q < states_of a → leads sets q q ≡ true
  pub edges : (e : Edge) → Contains a.edges e → leads sets e.from e.to ≡ true
  pub sound : (q r : ℕ) → q < states_of a → r < states_of a → leads sets q r ≡ true → (n : ℕ) × (is_reached a n q r ≡ true)
  pub through : (q m r : ℕ) → m < k → q < states_of a → r < states_of a → leads sets q m ≡ true → leads sets m r ≡ true → leads sets q r ≡ true

-- one more edge
pub no_more : (x y : Bool) → y ≡ false → x ≡ (x || y)
no_more true y out = refl
no_more false y out = sym out

abbrev leads_between : ℕ → ℕ → Edge → Bool
leads_between q r e = (q == e.from) && (r == e.to)

one_more : (edges : List Edge) (i : ℕ) (e : Edge) (q r : ℕ) → i < length edges → get_or edges i e ≡ e
    → is_edge (take (i + 1) edges) q r ≡ (is_edge (take i edges) q r || leads_between q r e)
one_more edges i e q r within is =
    list_any_more (leads_between q r) edges i e within ∙ ap (λ d. is_edge (take i edges) q r || leads_between q r d) is

pub edges_more : (n : ℕ) (edges : List Edge) (i : ℕ) (e : Edge) (sets : List StateSet) (new : StateSet)
    → i < length edges → get_or edges i e ≡ e → e.from < n → HaveEdges n (take i edges) sets → HasAlso e.to (get_or sets e.from none).words new.words
    → HaveEdges n (take (i + 1) edges) (slice_set sets e.from new)
edges_more n edges i e sets new within is from so_far also = record {
  places = length-set sets e.from new ∙ so_far.places;
  at = λ q r h. elim (cases_eq q e.from) [
    | inl same ↦
        let room : e.from < length sets = omega (arith, so_far.places) in
        let here : (q == e.from) ≡ true = eq-eqb q e.from same in
        ap (λ j. leads (slice_set sets e.from new) j r) same
        ∙ ap (λ (s : StateSet). is_in s.words r) (get_or-set_same sets e.from new none room)
        ∙ also.at r
        ∙ ap (λ j. leads sets j r || (r == e.to)) (sym same)
        ∙ ap (λ b. b || (r == e.to)) (so_far.at q r h)
        ∙ or_assoc (r == q) (is_edge (take i edges) q r) (r == e.to)
        ∙ ap (λ b. (r == q) || (is_edge (take i edges) q r || (b && (r == e.to)))) (sym here)
        ∙ ap (λ b. (r == q) || b) (sym (one_more edges i e q r within is))
    | inr other ↦
        let out : leads_between q r e ≡ false = ap (λ b. b && (r == e.to)) (ne_eqb q e.from other) in
        ap (λ (s : StateSet). is_in s.words r) (get_or-set_other sets e.from q new none other)
        ∙ so_far.at q r h
        ∙ ap (λ b. (r == q) || b) (no_more (is_edge (take i edges) q r) (leads_between q r e) out)
        ∙ ap (λ b. (r == q) || b) (sym (one_more edges i e q r within is))
  ];
}

-- with its edges alone, nothing is closed yet
pub closed_start : (a : AutomatonModel) (sets : List StateSet) → IsAutomaton a → HasEdges a sets → IsClosedBelow a 0 sets
closed_start a sets whole all = record {
  places = all.places;
  self = λ q h. all.at q q h ∙ or_left (q == q) (is_edge a.edges q q) (eq-eqb q q refl);
  edges = λ e there.
      let ends : JoinsStates (states_of a) e = All-contains (JoinsStates (states_of a)) a.edges e whole.edges there in
      all.at e.from e.to ends.from
      ∙ or_right (e.to == e.from) (is_edge a.edges e.from e.to)
      (from_edge (leads_between e.from e.to) a.edges e there (and_from (e.from == e.from) (e.to == e.to) (eq-eqb e.from e.from refl) (eq-eqb e.to e.to refl)));
  sound = λ q r hq hr leads_there. elim (or_cases (r == q) (is_edge a.edges q r) (sym (all.at q r hq) ∙ leads_there)) [
    | inl same ↦ (0, at_once a q r (sym (eqb-true r q same)))
    | inr edge ↦
        let found : HasEdgeOf a.edges (leads_between q r) = some_edge (leads_between q r) a.edges edge in
        let parts : ((q == found.edge.from) ≡ true) × ((r == found.edge.to) ≡ true) = and_parts (q == found.edge.from) (r == found.edge.to) found.passes in
        (1, goes_on a 0 q r found.edge found.stands (at_once a q found.edge.from (eqb-true q found.edge.from parts.0)) (sym (eqb-true r found.edge.to parts.1)))
  ];
  through = λ q m r h. absurd (omega arith);
}

-- one middle state more
module _ (a : AutomatonModel) (k : ℕ) (sets new : List StateSet) (whole : IsAutomaton a) (hk : k < states_of a) (below : IsClosedBelow a k sets) (passed : ArePassedOn k sets new) where
  has_room : (q : ℕ) → q < states_of a → q < length sets
  has_room q h = omega (arith, below.places)

  grows : (q r : ℕ) → q < states_of a → leads sets q r ≡ true → leads new q r ≡ true
  grows q r h is = passed.at q r (has_room q h) ∙ or_left (leads sets q r) (leads sets q k && leads sets k r) is

  by_middle : (q r : ℕ) → q < states_of a → leads sets q k ≡ true → leads sets k r ≡ true → leads new q r ≡ true
  by_middle q r h first second =
      passed.at q r (has_room q h) ∙ or_right (leads sets q r) (leads sets q k && leads sets k r) (and_from (leads sets q k) (leads sets k r) first second)

  ways : (q r : ℕ) → q < states_of a → leads new q r ≡ true → (leads sets q r ≡ true) ⊎ ((leads sets q k ≡ true) × (leads sets k r ≡ true))
  ways q r h is = elim (or_cases (leads sets q r) (leads sets q k && leads sets k r) (sym (passed.at q r (has_room q h)) ∙ is)) [
    | inl straight ↦ inl straight
    | inr both ↦ inr (and_parts (leads sets q k) (leads sets k r) both)
  ]

  to_middle : (q : ℕ) → q < states_of a → leads new q k ≡ true → leads sets q k ≡ true
  to_middle q h is = elim (ways q k h is) [ inl straight ↦ straight | inr both ↦ both.0 ]

  from_middle : (r : ℕ) → leads new k r ≡ true → leads sets k r ≡ true
  from_middle r is = elim (ways k r hk is) [ inl straight ↦ straight | inr both ↦ both.1 ]

  through_more : (q m r : ℕ) → m < k + 1 → q < states_of a → r < states_of a → leads new q m ≡ true → leads new m r ≡ true → leads new q r ≡ true
  through_more q m r hm hq hr first second = elim (last_or_less m k (omega arith)) [
    | inl same ↦
        by_middle q r hq
        (to_middle q hq (subst (λ j. leads new q j ≡ true) same first))
        (from_middle r (subst (λ j. leads new j r ≡ true) same second))
    | inr less ↦ elim (ways q m hq first) [
      | inl one ↦ elim (ways m r (omega (arith, less)) second) [
        | inl two ↦ grows q r hq (below.through q m r less hq hr one two)
        | inr two ↦ by_middle q r hq (below.through q m k less hq hk one two.0) two.1
      ]
      | inr one ↦ elim (ways m r (omega (arith, less)) second) [
        | inl two ↦ by_middle q r hq one.0 (below.through k m r less hk hr one.1 two)
        | inr two ↦ by_middle q r hq one.0 two.1
      ]
    ]
  ]

  sound_more : (q r : ℕ) → q < states_of a → r < states_of a → leads new q r ≡ true → (n : ℕ) × (is_reached a n q r ≡ true)
  sound_more q r hq hr is = elim (ways q r hq is) [
    | inl straight ↦ below.sound q r hq hr straight
    | inr both ↦
        let first : (n : ℕ) × (is_reached a n q k ≡ true) = below.sound q k hq hk both.0 in
        let second : (n : ℕ) × (is_reached a n k r ≡ true) = below.sound k r hk hr both.1 in
        (first.0 + second.0, reached_on a first.0 second.0 q k r first.1 second.1)
  ]

  pub closed_more : IsClosedBelow a (k + 1) new
  closed_more = record {
    places = passed.places ∙ below.places;
    self = λ q h. grows q q h (below.self q h);
    edges = λ e there.
        let ends : JoinsStates (states_of a) e = All-contains (JoinsStates (states_of a)) a.edges e whole.edges there in
        grows e.from e.to ends.from (below.edges e there);
    sound = sound_more;
    through = through_more;
  }

-- closed over all states, the sets are what is reached
reached_leads : (a : AutomatonModel) (k : ℕ) (sets : List StateSet) → IsAutomaton a → states_of a ≤ k → IsClosedBelow a k sets
    → (n q r : ℕ) → q < states_of a → r < states_of a → is_reached a n q r ≡ true → leads sets q r ≡ true
reached_leads a k sets whole all closed zero q r hq hr is = subst (λ j. leads sets q j ≡ true) (no_edge a q r is) (closed.self q hq)
reached_leads a k sets whole all closed (suc n) q r hq hr is = elim (last_edge a n q r is) [
  | inl before ↦ reached_leads a k sets whole all closed n q r hq hr before
  | inr last ↦
      let ends : JoinsStates (states_of a) last.edge = All-contains (JoinsStates (states_of a)) a.edges last.edge whole.edges last.stands in
      let from : last.edge.from < states_of a = ends.from in
      closed.through q last.edge.from r (omega arith) hq hr
      (reached_leads a k sets whole all closed n q last.edge.from hq ends.from last.before)
      (subst (λ j. leads sets last.edge.from j ≡ true) last.ends (closed.edges last.edge last.stands))
]

pub closed_all : (a : AutomatonModel) (k : ℕ) (sets : List StateSet) → IsAutomaton a → states_of a ≤ k → IsClosedBelow a k sets → AreReached a sets
closed_all a k sets whole all closed = record {
  places = closed.places;
  at = λ q r hq hr.
      same_from_decides {P = is_reached a (states_of a) q r ≡ true} (leads sets q r) (is_reached a (states_of a) q r) (
        λ is. let path : (n : ℕ) × (is_reached a n q r ≡ true) = closed.sound q r hq hr is in reached_within a q path.0 r whole hq hr path.1,
        reached_leads a k sets whole all closed (states_of a) q r hq hr,
      )
      (λ h. h, λ h. h);
}
