-- A machine has a valid annotation, or a rejecting run.
use Rattle.std.proofs.Common.{◌≡◌, ℕ, suc, ◌+◌, ◌*◌, ◌^◌, ◌<◌, ◌≤◌, ◌⊎◌, inl, inr, List, [], ◌∷◌, false, refl, sym, ap, ◌∙◌, subst, arith}
use Rattle.std.specs.Prelude.{All, Contains}
use Rattle.std.proofs.lemmas.Bool.{cases_Bool, cases_lt}
use Rattle.std.proofs.lemmas.List.Elements.{All-contains}
use Rattle.letters_and_lassos.specs.Cube.{Fits}
use Rattle.machine_model.specs.Accepts.{SideAccepts}
use Rattle.machine_model.specs.Automaton.{HasEdge, IsAutomaton, JoinsStates, states_of}
use Rattle.machine_model.specs.Components.{ComponentsClass}
use Rattle.machine_model.specs.Course.{letter_of}
use Rattle.machine_model.specs.Machine.{MachineModel, IsMachine, next_of, size_of}
use Rattle.machine_model.specs.Problem.{IsMachineOf, automaton_of, counts_locally}
use Rattle.machine_model.specs.declared.automata.Edge.{Edge}
use Rattle.machine_model.specs.declared.problems.Problem.{Problem}
use Rattle.product_bound.specs.Annotation.{bound_of, number_after, places_of, rise_at}
use Rattle.product_bound.specs.Laws.{HasRejectingRun, HasValidAnnotation}
use Rattle.product_bound.specs.declared.laws.ProductStep.{ProductStep}
use Rattle.product_bound.proofs.Counted.{after_stays, stays_whole, whole_bound, whole_start}
use Rattle.product_bound.proofs.Decide.{each_below, each_in}
use Rattle.product_bound.proofs.Letters.{fits_or_not, to_within}
use Rattle.product_bound.proofs.Levels.{ClosedLevels, IsClosed, Wants, closed_levels}
use Rattle.product_bound.proofs.Local.{Rises, are_local_levels, local_level}
use Rattle.product_bound.proofs.Numbers.{AreLevels, annotation_by_levels}
use Rattle.product_bound.proofs.Sums.{Once, total}
use Rattle.product_bound.proofs.Trails.{Trail, once_or_run, place, place_within, places, rise, rise-place, same_pair, trail_small}

-- an arrow of the product, from place to place
record Arrow (p : Problem) (m : MachineModel) (u v : ℕ) : Type 0 where
  t : ℕ
  q : ℕ
  read : ℕ
  r : ℕ
  is_state : t < p.size
  is_from : q < states_of (automaton_of p)
  is_letter : read < 2 ^ m.reads
  edge : HasEdge (automaton_of p) (letter_of p.side m t read) q r
  from_is : u ≡ place p t q
  to_is : v ≡ place p (next_of m t read) r

-- a trail to the pair at a place that meets so many rejecting states
record Found (p : Problem) (m : MachineModel) (v c : ℕ) : Type 0 where
  t : ℕ
  q : ℕ
  steps : List ProductStep
  is_state : t < p.size
  is_from : q < states_of (automaton_of p)
  trail : Trail p m steps t q
  once : Once (places_of p) (rise p) (place p t q ∷ places p steps)
  at : v ≡ place p t q
  counts : total (rise p) (place p t q ∷ places p steps) ≡ c

module _ (p : Problem) (m : MachineModel) (classes : ComponentsClass) (made : IsAutomaton (automaton_of p)) (machine : IsMachine m) (fits : IsMachineOf p m) (some : 0 < size_of m) where
  start : Found p m 0 (rise p 0)
  start =
      let n : 0 < states_of (automaton_of p) = made.some in
      let z : 0 * states_of (automaton_of p) + 0 ≡ 0 = omega arith in
      record {
        t = 0;
        q = 0;
        steps = [];
        is_state = rw (sym fits.size) some;
        is_from = n;
        trail = (refl, refl);
        once = (place_within p 0 0 (rw (sym fits.size) some) n, ((λ _ there. absurd (let within : there.0 < 0 = there.1 in omega arith)), tt));
        at = sym z;
        counts = let e : rise p (0 * states_of (automaton_of p) + 0) ≡ rise p 0 = ap (rise p) z in omega (arith, e);
      }

  along : (u v c : ℕ) → Arrow p m u v → Found p m u c → Found p m v (c + rise p v) ⊎ HasRejectingRun p m
  along u v c arrow found =
      let same : (arrow.t ≡ found.t) × (arrow.q ≡ found.q) = same_pair p arrow.t arrow.q found.t found.q arrow.is_from found.is_from (sym arrow.from_is ∙ found.at) in
      let edge : HasEdge (automaton_of p) (letter_of p.side m found.t arrow.read) found.q arrow.r = rw (same.0, same.1) at arrow.edge in
      let step : ProductStep = record { t = found.t; q = found.q; letter = arrow.read } in
      let t' : ℕ = next_of m found.t arrow.read in
      let small : found.t < size_of m = rw fits.size found.is_state in
      let next_small : t' < size_of m = machine.nexts found.t arrow.read small arrow.is_letter in
      let to : v ≡ place p t' arrow.r = rw same.0 at arrow.to_is in
      let counts : total (rise p) (place p found.t found.q ∷ places p found.steps) ≡ c = found.counts in
      let here : rise p v ≡ rise p (place p t' arrow.r) = ap (rise p) to in
      let is_state : t' < p.size = rw (sym fits.size) next_small in
      let is_from : arrow.r < states_of (automaton_of p) = to_within (automaton_of p) (letter_of p.side m found.t arrow.read) found.q arrow.r made edge in
      let trail : Trail p m (step ∷ found.steps) t' arrow.r = (found.is_state, (found.is_from, (record { letter = arrow.is_letter; moves = refl; edge = edge }, found.trail))) in
      elim (once_or_run p m machine some (step ∷ found.steps) t' arrow.r trail is_state is_from found.once) [
        | inr refuted ↦ inr refuted
        | inl once ↦ inl (record {
          t = t';
          q = arrow.r;
          steps = step ∷ found.steps;
          is_state = is_state;
          is_from = is_from;
          trail = trail;
          once = once;
          at = to;
          counts = omega (arith, counts, here);
        })
      ]

  within : (v c : ℕ) → Found p m v c → v < places_of p
  within v c found = rw found.at (place_within p found.t found.q found.is_state found.is_from)

  small : (v c : ℕ) → Found p m v c → c ≤ bound_of p
  small v c found = subst (λ k. k ≤ bound_of p) found.counts (trail_small p m machine some found.steps found.t found.q found.once)

  -- what an edge asks of levels, from a state and on a letter
  Kept : (ℕ → ℕ) → ℕ → ℕ → Edge → Type 0
  Kept f t read e = Fits e.cube (letter_of p.side m t read) → 0 < f (place p t e.from) → f (place p t e.from) + rise p (place p (next_of m t read) e.to) ≤ f (place p (next_of m t read) e.to)

  kept_or_wants : (f : ℕ → ℕ) (t read : ℕ) → t < p.size → read < 2 ^ m.reads → (e : Edge) → Contains (automaton_of p).edges e → Kept f t read e ⊎ Wants (rise p) (Arrow p m) f
  unfolding Kept
  kept_or_wants f t read ht hi e there =
      elim (fits_or_not e.cube (letter_of p.side m t read)) [
        | inr misses ↦ inl (λ it_fits _. absurd (misses it_fits))
        | inl it_fits ↦ elim (cases_lt (f (place p (next_of m t read) e.to)) (f (place p t e.from) + rise p (place p (next_of m t read) e.to))) [
          | inr enough ↦ inl (λ _ _. enough)
          | inl low ↦ elim (cases_lt 0 (f (place p t e.from))) [
            | inr none ↦ inl (λ _ has. absurd (omega (arith, none, has)))
            | inl has ↦
                let joins : JoinsStates (states_of (automaton_of p)) e = All-contains (JoinsStates (states_of (automaton_of p))) (automaton_of p).edges e made.edges there in
                inr (record {
                  from = place p t e.from;
                  to = place p (next_of m t read) e.to;
                  arrow = record {
                    t = t;
                    q = e.from;
                    read = read;
                    r = e.to;
                    is_state = ht;
                    is_from = joins.from;
                    is_letter = hi;
                    edge = record { cube = e.cube; stands = there; fits = it_fits };
                    from_is = refl;
                    to_is = refl;
                  };
                  has = has;
                  low = low;
                })
          ]
        ]
      ]

  all_kept : (f : ℕ → ℕ) → ((t : ℕ) → t < p.size → (read : ℕ) → read < 2 ^ m.reads → All (Kept f t read) (automaton_of p).edges) → IsClosed (rise p) (Arrow p m) f
  unfolding Kept
  all_kept f all u v arrow has =
      let e : Edge = record { from = arrow.q; cube = arrow.edge.cube; to = arrow.r } in
      let kept : Kept f arrow.t arrow.read e = All-contains (Kept f arrow.t arrow.read) (automaton_of p).edges e (all arrow.t arrow.is_state arrow.read arrow.is_letter) arrow.edge.stands in
      let has' : 0 < f (place p arrow.t arrow.q) = rw arrow.from_is at has in
      rw (arrow.from_is, arrow.to_is) (kept arrow.edge.fits has')

  look : (f : ℕ → ℕ) → IsClosed (rise p) (Arrow p m) f ⊎ Wants (rise p) (Arrow p m) f
  look f =
      let V : Type 0 = Wants (rise p) (Arrow p m) f in
      let of_letter : (t : ℕ) → t < p.size → (read : ℕ) → read < 2 ^ m.reads → All (Kept f t read) (automaton_of p).edges ⊎ V
      = λ t ht read hi. each_in (automaton_of p).edges (Kept f t read) V (kept_or_wants f t read ht hi) in
      let of_state : (t : ℕ) → t < p.size → ((read : ℕ) → read < 2 ^ m.reads → All (Kept f t read) (automaton_of p).edges) ⊎ V
      = λ t ht. each_below (2 ^ m.reads) (λ read. All (Kept f t read) (automaton_of p).edges) V (of_letter t ht) in
      elim (each_below p.size (λ t. (read : ℕ) → read < 2 ^ m.reads → All (Kept f t read) (automaton_of p).edges) V of_state) [
        | inl all ↦ inl (all_kept f all)
        | inr v ↦ inr v
      ]

  levels : ClosedLevels (rise p) (Arrow p m) (Found p m) ⊎ HasRejectingRun p m
  levels = closed_levels (places_of p) (bound_of p) (rise p) (Arrow p m) (Found p m) start (HasRejectingRun p m) along within small look

  module _ (found : ClosedLevels (rise p) (Arrow p m) (Found p m)) where
    start_zero : place p 0 0 ≡ 0
    start_zero = omega arith

    -- the first pair's level
    first : suc (rise_at (automaton_of p) 0) ≤ found.level (place p 0 0)
    first =
        let level : suc (rise p 0) ≤ found.level 0 = found.sound.start in
        let here : suc (rise p 0) ≤ found.level (place p 0 0) = rw start_zero level in
        let same : rise p 0 ≡ rise_at (automaton_of p) 0 = ap (rise p) (sym start_zero) ∙ rise-place p 0 0 made.some in
        rw (← same) here

    rises : Rises p m found.level
    rises t q read r ht hq hr hi edge has =
        let arrow : Arrow p m (place p t q) (place p (next_of m t read) r) = record {
          t = t;
          q = q;
          read = read;
          r = r;
          is_state = ht;
          is_from = hq;
          is_letter = hi;
          edge = edge;
          from_is = refl;
          to_is = refl;
        } in
        let enough : found.level (place p t q) + rise p (place p (next_of m t read) r) ≤ found.level (place p (next_of m t read) r) = found.closed (place p t q) (place p (next_of m t read) r) arrow has in
        rw (← rise-place p (next_of m t read) r hr) enough

    -- where all rejecting states are counted
    whole : counts_locally p ≡ false → AreLevels p m found.level
    whole version = record {
      bounded = λ t q c ht hq e. rw (whole_bound p q version) (small (place p t q) c (found.sound.found (place p t q) c e));
      start = rw (whole_start p version) first;
      edges = λ t q c read r ht hq hr hi edge e.
          let up : found.level (place p t q) + rise_at (automaton_of p) r ≤ found.level (place p (next_of m t read) r) = rises t q read r ht hq hr hi edge (omega (arith, e)) in
          let same : number_after p q r c ≡ c + rise_at (automaton_of p) r = after_stays p q r c (stays_whole p q r version) in
          omega (arith, up, same, e);
    }

    annotation : HasValidAnnotation p m
    annotation = elim (cases_Bool (counts_locally p)) [
      | inr version ↦ annotation_by_levels p m made machine fits some found.level (whole version)
      | inl version ↦
          let has : 0 < found.level (place p 0 0) = omega (arith, first) in
          annotation_by_levels p m made machine fits some (local_level p (classes (automaton_of p) made) made found.level) (are_local_levels p (classes (automaton_of p) made) made found.level m machine fits version has rises)
    ]

  pub annotation_or_run : HasValidAnnotation p m ⊎ HasRejectingRun p m
  annotation_or_run = elim levels [ inl found ↦ inl (annotation found) | inr refuted ↦ inr refuted ]

  pub has_annotation : SideAccepts (automaton_of p) p.side m → HasValidAnnotation p m
  has_annotation accepts = elim annotation_or_run [ inl annotation ↦ annotation | inr refuted ↦ absurd (accepts refuted.word (refuted.states, refuted.run) refuted.accepted) ]
