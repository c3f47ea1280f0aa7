-- The steps of a tour: it enters a gate, joins groups, leaves a gate, or is done with a group.
use Rattle.std.proofs.Common.{◌≡◌, ◌≢◌, ℕ, zero, suc, ◌+◌, ◌-◌, ◌/◌, ◌<◌, ◌≤◌, ◌⊎◌, Bool, true, false, List, [], ◌∷◌, ◌++◌, length, get_or, set, refl, sym, ap, subst, ◌∙◌, arith, inl, inr}
use Rattle.std.specs.Prelude.{Contains, map}
use Rattle.std.specs.List.{sum_by}
use Rattle.std.proofs.lemmas.Bool.{cases_eq, cases_lt}
use Rattle.std.proofs.lemmas.List.{get_or-set_same, get_or-set_other, length-set, length_push, get_or_push, get_or_append_left}
use Rattle.std.proofs.lemmas.List.Sums.{sum_by-set}
use Rattle.std.proofs.lemmas.List.Elements.{Contains-push, Contains-push_cases, Contains-append_left}
use Rattle.aiger_text.specs.declared.circuits.Gate.{Gate}
use Rattle.aiger_text.specs.declared.groups.Stage.{Stage}
use Rattle.aiger_text.specs.declared.groups.Stage.TheVariants.{New, Open, Done}
use Rattle.aiger_text.specs.CircuitType.{gate_at}
use Rattle.aiger_text.specs.CircuitType.DependsOn.{through}
use Rattle.aiger_text.specs.Walks.{Uses}
use Rattle.aiger_text.specs.Groups.{IsTour, IsGreatest, IsDone, Leads, CutsGroup, Goes, stage_at, is_done, weight, left_to_do}
use Rattle.aiger_text.proofs.WalkLemmas.{depends}
use Rattle.aiger_text.proofs.GroupLemmas.{rises_push, last_greatest}

pub leads_on : (gates : List Gate) (a b c : ℕ) → Leads gates a b → Leads gates b c → Leads gates a c
leads_on gates a b c p q = through ((gate_at gates a).literal / 2) ((gate_at gates b).literal / 2) ((gate_at gates c).literal / 2) p q

-- stages are apart
pub open-new : {X : Type 0} (s : Stage) (i : ℕ) → s ≡ Open i → s ≡ New → X
open-new s i a b = let e : ◌≡◌ {A = Stage} (Open i) New = sym a ∙ b in absurd (cc)

pub open-done : {X : Type 0} (s : Stage) (i : ℕ) → s ≡ Open i → is_done s ≡ true → X
open-done s i a b = let e : ◌≡◌ {A = Bool} false true = ap is_done (sym a) ∙ b in absurd (cc)

pub new-done : {X : Type 0} (s : Stage) → s ≡ New → is_done s ≡ true → X
new-done s a b = let e : ◌≡◌ {A = Bool} false true = ap is_done (sym a) ∙ b in absurd (cc)

abbrev place_of : Stage → ℕ
place_of New = 0
place_of (Open i) = i
place_of (Done on) = 0

pub one_place : (s : Stage) (i k : ℕ) → s ≡ Open i → s ≡ Open k → i ≡ k
one_place s i k a b = ap place_of (sym a ∙ b)

-- what is reached where the done gates are
pub reached_within : (stages : List Stage) (k : ℕ) → get_or (map is_done stages) k false ≡ true → (k < length stages) × (is_done (get_or stages k (Done false)) ≡ true)
reached_within [] k e = absurd (cc)
reached_within (s ∷ stages) zero e = (omega arith, e)
reached_within (s ∷ stages) (suc k) e =
    let rest = reached_within stages k e in
    let less : k < length stages = rest.0 in
    (omega arith, rest.1)

pub reached_from : (stages : List Stage) (k : ℕ) → k < length stages → is_done (get_or stages k (Done false)) ≡ true → get_or (map is_done stages) k false ≡ true
reached_from [] k less e = absurd (omega arith)
reached_from (s ∷ stages) zero less e = e
reached_from (s ∷ stages) (suc k) less e = reached_from stages k (omega arith) e

module _ (gates : List Gate) (stages : List Stage) (opened path starts : List ℕ) (tour : IsTour gates stages opened path starts) where
  abbrev op : ℕ → ℕ
  op i = get_or opened i 0

  -- a start is on the path
  start_before : (t s : ℕ) → IsGreatest path t → IsGreatest starts s → s ≤ t
  start_before t s top last = top.most s (tour.roots s last.there)

  -- each open gate leads to the one that is followed last
  to_top : (t s i : ℕ) → IsGreatest path t → IsGreatest starts s → i < length opened → (i ≡ t) ⊎ Leads gates (op i) (op t)
  to_top t s i top last h =
      let inside : t < length opened = tour.path_within t top.there in
      let before : s ≤ t = start_before t s top last in
      elim (cases_lt i t) [
        | inl less ↦ inr (tour.onward i t less inside)
        | inr ge ↦ elim (cases_eq i t) [
          | inl e ↦ inl e
          | inr ne ↦
              let apart : i ≢ t = ne in
              let more : s < i = omega (arith, apart) in
              let down : Leads gates (op i) (op s) = tour.back i s (record { there = last.there; before = omega arith; most = λ y there le. last.most y there }) more h in
              elim (cases_eq s t) [
                | inl e ↦ inr (subst (λ k. Leads gates (op i) (op k)) e down)
                | inr other ↦
                    let apart' : s ≢ t = other in
                    inr (leads_on gates (op i) (op s) (op t) down (tour.onward s t (omega (arith, apart')) inside))
              ]
        ]
      ]

  -- where a gate is open, one is followed
  some_path : 0 < length opened → 0 < length path
  some_path h = let there = tour.roots 0 (tour.first h) in let inside : there.0 < length path = there.1 in omega arith

  some_start : 0 < length opened → 0 < length starts
  some_start h = let there = tour.first h in let inside : there.0 < length starts = there.1 in omega arith

  -- == a gate is entered ==
  module _ (g : ℕ) (within : g < length gates) (new : stage_at stages g ≡ New) (used : (t : ℕ) → IsGreatest path t → Uses gates (op t) g) where
    abbrev n : ℕ
    n = length opened

    abbrev entered : List Stage
    entered = set stages g (Open n)

    room : g < length stages
    room = rw tour.places within

    here : stage_at entered g ≡ Open n
    here = get_or-set_same stages g (Open n) (Done false) room

    other : (k : ℕ) → k ≢ g → stage_at entered k ≡ stage_at stages k
    other k ne = get_or-set_other stages g k (Open n) (Done false) ne

    not_open : (k i : ℕ) → stage_at stages k ≡ Open i → k ≢ g
    not_open k i is e = open-new (stage_at stages k) i is (ap (stage_at stages) e ∙ new)

    not_done : (k : ℕ) → IsDone stages k → k ≢ g
    not_done k is e = new-done (stage_at stages k) (ap (stage_at stages) e ∙ new) is

    stays_done : (k : ℕ) → IsDone stages k → IsDone entered k
    stays_done k is = ap is_done (other k (not_done k is)) ∙ is

    was_done : (k : ℕ) → IsDone entered k → IsDone stages k
    was_done k is = elim (cases_eq k g) [
      | inl e ↦ open-done (stage_at entered k) n (ap (stage_at entered) e ∙ here) is
      | inr ne ↦ ap is_done (sym (other k ne)) ∙ is
    ]

    at : (i : ℕ) → i < n → get_or (opened ++ g ∷ []) i 0 ≡ op i
    at i h = get_or_append_left opened (g ∷ []) 0 i h

    at_end : (i : ℕ) → n ≡ i → get_or (opened ++ g ∷ []) i 0 ≡ g
    at_end i e = get_or_push opened g 0 i e

    longer : length (opened ++ g ∷ []) ≡ n + 1
    longer = length_push opened g

    leads_here : (i : ℕ) → i < n → Leads gates (op i) g
    leads_here i h =
        let t : ℕ = get_or path (length path - 1) 0 in
        let s : ℕ = get_or starts (length starts - 1) 0 in
        let top : IsGreatest path (get_or path (length path - 1) 0) = last_greatest path (get_or path (length path - 1) 0) (some_path (omega arith)) refl tour.path_rises in
        let last : IsGreatest starts (get_or starts (length starts - 1) 0) = last_greatest starts (get_or starts (length starts - 1) 0) (some_start (omega arith)) refl tour.starts_rise in
        let inside : get_or path (length path - 1) 0 < length opened = tour.path_within (get_or path (length path - 1) 0) top.there in
        let step : Leads gates (op (get_or path (length path - 1) 0)) g = depends gates (op (get_or path (length path - 1) 0)) g (tour.within (get_or path (length path - 1) 0) inside) (used (get_or path (length path - 1) 0) top) in
        elim (to_top (get_or path (length path - 1) 0) (get_or starts (length starts - 1) 0) i top last h) [
          | inl e ↦ subst (λ k. Leads gates (op k) g) (sym e) step
          | inr up ↦ leads_on gates (op i) (op (get_or path (length path - 1) 0)) g up step
        ]

    pub enter_tour : IsTour gates entered (opened ++ g ∷ []) (path ++ n ∷ []) (starts ++ n ∷ [])
    enter_tour = record {
      places = length-set stages g (Open n) ∙ tour.places;
      within = λ i h. elim (cases_lt i n) [
        | inl before ↦ rw (at i before) (tour.within i before)
        | inr last ↦ let e : n ≡ i = omega (arith, longer) in rw (at_end i e) within
      ];
      stands = λ i h. elim (cases_lt i n) [
        | inl before ↦ ap (stage_at entered) (at i before) ∙ other (op i) (not_open (op i) i (tour.stands i before)) ∙ tour.stands i before
        | inr last ↦ let e : n ≡ i = omega (arith, longer) in ap (stage_at entered) (at_end i e) ∙ here ∙ ap Open e
      ];
      listed = λ k i is. elim (cases_eq k g) [
        | inl e ↦
            let same : n ≡ i = one_place (stage_at entered k) n i (ap (stage_at entered) e ∙ here) is in
            (omega (arith, longer, same), at_end i same ∙ sym e)
        | inr ne ↦
            let was = tour.listed k i (sym (other k ne) ∙ is) in
            let before : i < n = was.0 in
            (omega (arith, longer), at i before ∙ was.1)
      ];
      onward = λ i k less h.
          let first : i < n = omega (arith, longer) in
          elim (cases_lt k n) [
            | inl before ↦ rw (at i first, at k before) (tour.onward i k less before)
            | inr last ↦ let e : n ≡ k = omega (arith, longer) in rw (at i first, at_end k e) (leads_here i first)
          ];
      back = λ i start is less h. elim (cases_lt i n) [
        | inl before ↦
            let there : Contains starts start = elim (Contains-push_cases starts n start is.there) [
              | inl old ↦ old
              | inr end ↦ absurd (omega (arith, end))
            ] in
            let low : start < n = omega arith in
            rw (at i before, at start low) (tour.back i start (record { there = there; before = is.before; most = λ y h le. is.most y (Contains-append_left starts (n ∷ []) y h) le }) less before)
        | inr last ↦
            let e : n ≡ i = omega (arith, longer) in
            let le : n ≤ start = is.most n (Contains-push starts n) (omega (arith, e)) in
            absurd (omega (arith, e))
      ];
      closed = λ k h hk is hh uses. stays_done h (tour.closed k h hk (was_done k is) hh uses);
      finished = λ i h hi away hh uses.
          let apart : i ≢ n = λ e. away (subst (Contains (path ++ n ∷ [])) (sym e) (Contains-push path n)) in
          let before : i < n = omega (arith, longer, apart) in
          elim (tour.finished i h before (λ on. away (Contains-append_left path (n ∷ []) i on)) hh (subst (λ k. Uses gates k h) (at i before) uses)) [
            | inl done ↦ inl (stays_done h done)
            | inr stays ↦ inr (
              stays.0,
              (
                other h (not_open h stays.0 stays.1.0) ∙ stays.1.0,
                λ start there le. elim (Contains-push_cases starts n start there) [
                  | inl old ↦ stays.1.1 start old le
                  | inr end ↦ absurd (omega (arith, end))
                ],
              ),
            )
          ];
      roots = λ start there. elim (Contains-push_cases starts n start there) [
        | inl old ↦ Contains-append_left path (n ∷ []) start (tour.roots start old)
        | inr end ↦ subst (Contains (path ++ n ∷ [])) end (Contains-push path n)
      ];
      path_rises = rises_push path n tour.path_rises (λ y there. tour.path_within y there);
      path_within = λ i there. elim (Contains-push_cases path n i there) [
        | inl old ↦ let less : i < n = tour.path_within i old in omega (arith, longer)
        | inr end ↦ omega (arith, longer, end)
      ];
      starts_rise = rises_push starts n tour.starts_rise (λ y there. tour.path_within y (tour.roots y there));
      first = λ h. elim (cases_lt 0 n) [
        | inl some ↦ Contains-append_left starts (n ∷ []) 0 (tour.first some)
        | inr none ↦ let e : n ≡ 0 = omega arith in subst (Contains (starts ++ n ∷ [])) e (Contains-push starts n)
      ];
      known = λ k on hk is. elim (cases_eq k g) [
        | inl e ↦ open-done (stage_at entered k) n (ap (stage_at entered) e ∙ here) (ap is_done is)
        | inr ne ↦ tour.known k on hk (sym (other k ne) ∙ is)
      ];
    }

    pub enter_goes : Goes stages entered
    enter_goes = record {
      keeps_done = stays_done;
      no_new = λ k is. elim (cases_eq k g) [
        | inl e ↦ open-new (stage_at entered k) n (ap (stage_at entered) e ∙ here) is
        | inr ne ↦ sym (other k ne) ∙ is
      ];
    }

    pub enter_lowers : left_to_do entered (path ++ n ∷ []) (starts ++ n ∷ []) < left_to_do stages path starts
    enter_lowers =
        let sum : sum_by weight entered + weight (get_or stages g (Done false)) ≡ sum_by weight stages + 0 = sum_by-set weight stages g (Open n) (Done false) room in
        let three : weight (get_or stages g (Done false)) ≡ 3 = ap weight new in
        omega (arith, sum, three, length_push path n, length_push starts n)

  -- == groups are joined ==
  module _ (t s p h : ℕ) (top : IsGreatest path t) (last : IsGreatest starts s) (fewer : List ℕ) (cuts : CutsGroup starts fewer p) (within : h < length gates)
      (uses : Uses gates (op t) h) (is : stage_at stages h ≡ Open p) (low : p < s) where
    named : op p ≡ h
    named = (tour.listed h p is).1

    pub join_tour : IsTour gates stages opened path fewer
    join_tour = record {
      places = tour.places;
      within = tour.within;
      stands = tour.stands;
      listed = tour.listed;
      onward = tour.onward;
      back = λ i start begins less hi.
          let old : Contains starts start = cuts.from_old start begins.there in
          elim (cases_lt p i) [
            | inl above ↦
                let at_p : start ≤ p = cuts.at_most start begins.there in
                let inside : t < length opened = tour.path_within t top.there in
                let here : Leads gates (op t) (op p) = subst (Leads gates (op t)) (sym named) (depends gates (op t) h (tour.within t inside) uses) in
                let to_p : Leads gates (op i) (op p) = elim (to_top t s i top last hi) [
                  | inl e ↦ subst (λ k. Leads gates (op k) (op p)) (sym e) here
                  | inr up ↦ leads_on gates (op i) (op t) (op p) up here
                ] in
                elim (cases_eq start p) [
                  | inl e ↦ subst (λ k. Leads gates (op i) (op k)) (sym e) to_p
                  | inr ne ↦
                      let apart : start ≢ p = ne in
                      let inside_p : p < length opened = (tour.listed h p is).0 in
                      leads_on gates (op i) (op p) (op start) to_p (tour.back p start
                      (record { there = old; before = at_p; most = λ y there le. begins.most y (cuts.stay y there le) (omega arith) }) (omega (arith, apart)) inside_p)
                ]
            | inr below ↦ tour.back i start (record { there = old; before = begins.before; most = λ y there le. begins.most y (cuts.stay y there (omega arith)) le }) less hi
          ];
      closed = tour.closed;
      finished = λ i k hi away hk u. elim (tour.finished i k hi away hk u) [
        | inl done ↦ inl done
        | inr stays ↦ inr (stays.0, (stays.1.0, λ start there le. stays.1.1 start (cuts.from_old start there) le))
      ];
      roots = λ start there. tour.roots start (cuts.from_old start there);
      path_rises = tour.path_rises;
      path_within = tour.path_within;
      starts_rise = cuts.rises;
      first = λ some. cuts.stay 0 (tour.first some) (omega arith);
      known = tour.known;
    }

    pub join_lowers : left_to_do stages path fewer < left_to_do stages path starts
    join_lowers = let less : length fewer < length starts = cuts.fewer s last.there low in omega arith
