-- A tour leaves a gate, or is done with a group.
use Rattle.std.proofs.Common.{◌≡◌, ◌≢◌, ℕ, ◌+◌, ◌-◌, ◌<◌, ◌≤◌, ◌⊎◌, Bool, true, false, Option, Some, None, List, [], ◌∷◌, ◌++◌, length, get_or, take, drop, refl, sym, ap, subst, ◌∙◌, arith, inl, inr}
use Rattle.std.specs.Prelude.{Contains, map, ◌↔◌, MatchOption}
use Rattle.std.specs.List.{sum_by}
use Rattle.std.proofs.lemmas.Bool.{cases_eq, cases_lt}
use Rattle.std.proofs.lemmas.List.{length_push, get_or-take, length-take-le}
use Rattle.std.proofs.Math.Seq.{take-append_seam}
use Rattle.std.proofs.lemmas.List.Elements.{Contains-push_cases, Contains-append_left}
use Rattle.aiger_text.specs.declared.circuits.Gate.{Gate}
use Rattle.aiger_text.specs.declared.groups.Stage.{Stage}
use Rattle.aiger_text.specs.declared.groups.Stage.TheVariants.{New, Open, Done}
use Rattle.aiger_text.specs.Walks.{IsOnCycle, IsFirstCycle, Uses, Finds, IsReached, IsVisited}
use Rattle.aiger_text.specs.Groups.{IsFirstDone, IsTour, IsGreatest, IsStart, IsDone, Leads, Rises, Closes, Goes, stage_at, is_done, weight, left_to_do}
use Rattle.aiger_text.proofs.WalkLemmas.{depends}
use Rattle.aiger_text.proofs.SearchLemmas.{complete}
use Rattle.aiger_text.proofs.GroupLemmas.{rises_front, rises_last, greatest, last_greatest}
use Rattle.aiger_text.proofs.TourLemmas.{leads_on, open-new, open-done, one_place, reached_within, reached_from}

-- what the gate at place t uses is done, or stands in the last group
abbrev pub IsReady : List Gate → List Stage → List ℕ → ℕ → ℕ → Type 0
IsReady gates stages opened t s =
    (h : ℕ) → h < length gates → Uses gates (get_or opened t 0) h → IsDone stages h ⊎ ((p : ℕ) × ((stage_at stages h ≡ Open p) × (s ≤ p)))

module _ (gates : List Gate) (stages : List Stage) (opened rest starts : List ℕ) (t : ℕ) (tour : IsTour gates stages opened (rest ++ t ∷ []) starts) where
  abbrev op : ℕ → ℕ
  op i = get_or opened i 0

  top : IsGreatest (rest ++ t ∷ []) t
  top = greatest rest t tour.path_rises

  inside : t < length opened
  inside = tour.path_within t top.there

  -- a gate is left, whose group stays open
  module _ (s : ℕ) (last : IsGreatest starts s) (within_group : s ≢ t) (ready : IsReady gates stages opened t s) where
    pub leave_tour : IsTour gates stages opened rest starts
    leave_tour = record {
      places = tour.places;
      within = tour.within;
      stands = tour.stands;
      listed = tour.listed;
      onward = tour.onward;
      back = tour.back;
      closed = tour.closed;
      finished = λ i h hi away hh uses. elim (cases_eq i t) [
        | inl e ↦ elim (ready h hh (subst (λ j. Uses gates (op j) h) e uses)) [
          | inl done ↦ inl done
          | inr stays ↦
              let low : s ≤ stays.0 = stays.1.1 in
              inr (stays.0, (stays.1.0, λ start there le. let most : start ≤ s = last.most start there in omega arith))
        ]
        | inr ne ↦ tour.finished i h hi (λ on. elim (Contains-push_cases rest t i on) [
          | inl before ↦ away before
          | inr end ↦ ne (sym end)
        ]) hh uses
      ];
      roots = λ start there. elim (Contains-push_cases rest t start (tour.roots start there)) [
        | inl before ↦ before
        | inr end ↦
            let up : start ≤ s = last.most start there in
            let down : s ≤ t = top.most s (tour.roots s last.there) in
            absurd (within_group (omega (arith, end)))
      ];
      path_rises = rises_front rest t tour.path_rises;
      path_within = λ i there. tour.path_within i (Contains-append_left rest (t ∷ []) i there);
      starts_rise = tour.starts_rise;
      first = tour.first;
      known = tour.known;
    }

    pub leave_lowers : left_to_do stages rest starts < left_to_do stages (rest ++ t ∷ []) starts
    leave_lowers = omega (arith, length_push rest t)

-- a group is done
module _ (gates : List Gate) (table : List (Option ℕ)) (finds : Finds gates table) (stages new : List Stage) (opened rest older : List ℕ) (t : ℕ) (on : Bool)
    (tour : IsTour gates stages opened (rest ++ t ∷ []) (older ++ t ∷ [])) (ready : IsReady gates stages opened t t)
    (right : on ≡ true ↔ ((t + 1 < length opened) ⊎ Uses gates (get_or opened t 0) (get_or opened t 0))) (closes : Closes stages new opened t (length opened) on) where
  abbrev member : ℕ → ℕ
  member i = get_or opened i 0

  path_top : IsGreatest (rest ++ t ∷ []) t
  path_top = greatest rest t tour.path_rises

  start_top : IsGreatest (older ++ t ∷ []) t
  start_top = greatest older t tour.starts_rise

  t_inside : t < length opened
  t_inside = tour.path_within t path_top.there

  -- a gate of the group, which is done now
  record IsMember (k : ℕ) : Type 0 where
    at : ℕ
    is : stage_at stages k ≡ Open at
    from : t ≤ at
    within : at < length opened
    named : member at ≡ k
    now : stage_at new k ≡ Done on

  record IsOther (k : ℕ) : Type 0 where
    same : stage_at new k ≡ stage_at stages k
    before : (i : ℕ) → stage_at stages k ≡ Open i → i < t

  which : (k : ℕ) → IsMember k ⊎ IsOther k
  which k = by (stage_at stages k) refl
    where
      kept : ((i : ℕ) → stage_at stages k ≡ Open i → i < t) → stage_at new k ≡ stage_at stages k
      kept low = closes.kept k (λ i from less e.
          let less' : i < t = low i (ap (stage_at stages) (sym e) ∙ tour.stands i less) in
          absurd (omega arith))

      by : (s : Stage) → stage_at stages k ≡ s → IsMember k ⊎ IsOther k
      by New e = let low : (i : ℕ) → stage_at stages k ≡ Open i → i < t = λ i is. open-new (stage_at stages k) i is e in inr (record { same = kept low; before = low })
      by (Open i) e = elim (cases_lt i t) [
        | inl less ↦
            let low : (j : ℕ) → stage_at stages k ≡ Open j → j < t = λ j is. let same : i ≡ j = one_place (stage_at stages k) i j e is in omega (arith, same) in
            inr (record { same = kept low; before = low })
        | inr ge ↦
            let there = tour.listed k i e in
            inl (record { at = i; is = e; from = ge; within = there.0; named = there.1; now = ap (stage_at new) (sym there.1) ∙ closes.done i ge there.0 })
      ]
      by (Done b) e = let low : (i : ℕ) → stage_at stages k ≡ Open i → i < t = λ i is. open-done (stage_at stages k) i is (ap is_done e) in inr (record { same = kept low; before = low })

  now_done : (k : ℕ) → IsMember k → IsDone new k
  now_done k m = ap is_done m.now

  stays_done : (k : ℕ) → IsDone stages k → IsDone new k
  stays_done k done = elim (which k) [
    | inl m ↦ now_done k m
    | inr o ↦ ap is_done o.same ∙ done
  ]

  -- a gate that is open in the group is done now
  group_done : (h p : ℕ) → stage_at stages h ≡ Open p → t ≤ p → IsDone new h
  group_done h p is le = elim (which h) [
    | inl m ↦ now_done h m
    | inr o ↦ let less : p < t = o.before p is in absurd (omega arith)
  ]

  not_followed : (i : ℕ) → t < i → Contains (rest ++ t ∷ []) i → ⊥
  not_followed i more there = let le : i ≤ t = path_top.most i there in absurd (omega arith)

  member_closed : (i h : ℕ) → t ≤ i → i < length opened → h < length gates → Uses gates (member i) h → IsDone new h
  member_closed i h from within hh uses = elim (cases_lt t i) [
    | inl more ↦ elim (tour.finished i h within (not_followed i more) hh uses) [
      | inl done ↦ stays_done h done
      | inr stays ↦ group_done h stays.0 stays.1.0 (stays.1.1 t start_top.there from)
    ]
    | inr le ↦
        let e : i ≡ t = omega arith in
        elim (ready h hh (subst (λ j. Uses gates (member j) h) e uses)) [
          | inl done ↦ stays_done h done
          | inr stays ↦ group_done h stays.0 stays.1.0 stays.1.1
        ]
  ]

  t_starts : (i : ℕ) → t ≤ i → IsStart (older ++ t ∷ []) t i
  t_starts i from = record { there = start_top.there; before = from; most = λ y there le. start_top.most y there }

  -- == the group's gates are on a cycle exactly where there are two, or the one uses itself ==
  root_round : t + 1 < length opened → Leads gates (member t) (member t)
  root_round two =
      leads_on gates (member t) (member (t + 1)) (member t) (tour.onward t (t + 1) (omega arith) two) (tour.back (t + 1) t (t_starts (t + 1) (omega arith)) (omega arith) two)

  round_from_root : (i : ℕ) → t ≤ i → i < length opened → Leads gates (member t) (member t) → Leads gates (member i) (member i)
  round_from_root i from within root = elim (cases_lt t i) [
    | inl more ↦
        leads_on gates (member i) (member t) (member i) (tour.back i t (t_starts i from) more within) (tour.onward t i more within)
    | inr le ↦ let e : t ≡ i = omega arith in subst (λ j. Leads gates (member j) (member j)) e root
  ]

  on_cycle : (i : ℕ) → t ≤ i → i < length opened → on ≡ true → Leads gates (member i) (member i)
  on_cycle i from within yes_on = round_from_root i from within (elim (right.0 yes_on) [
    | inl two ↦ root_round two
    | inr uses ↦ depends gates (member t) (member t) (tour.within t t_inside) uses
  ])

  abbrev reached : List Bool
  reached = map is_done stages

  reached_done : (k : ℕ) → k < length gates → IsDone stages k → IsReached reached k
  reached_done k h done = reached_from stages k (rw tour.places h) done

  alone : length opened ≡ t + 1 → (Uses gates (member t) (member t) → ⊥) → IsOnCycle gates (member t) → ⊥
  alone one never cycle =
      let start : IsVisited gates reached (member t) = λ h hh uses. elim (ready h hh uses) [
        | inl done ↦ reached_done h hh done
        | inr stays ↦
            let there = tour.listed h stays.0 stays.1.0 in
            let less : stays.0 < length opened = there.0 in
            let low : t ≤ stays.0 = stays.1.1 in
            let e : stays.0 ≡ t = omega (arith, one) in
            absurd (never (subst (Uses gates (member t)) (sym there.1 ∙ ap member e) uses))
      ] in
      let done_closed : (k : ℕ) → IsReached reached k → IsVisited gates reached k = λ k is h hh uses.
      let was = reached_within stages k is in
      let inside : k < length stages = was.0 in
      reached_done h hh (tour.closed k h (omega (arith, tour.places)) was.1 hh uses) in
      let back_here : IsReached reached (member t) = complete gates table finds (member t) reached start done_closed (tour.within t t_inside) cycle in
      open-done (stage_at stages (member t)) t (tour.stands t t_inside) (reached_within stages (member t) back_here).1

  is_known : (k : ℕ) → IsMember k → (on ≡ true ↔ IsOnCycle gates k)
  is_known k m = (
    λ yes_on. subst (λ g. Leads gates g g) m.named (on_cycle m.at m.from m.within yes_on),
    λ cycle. by on refl cycle,
  )
    where
      by : (b : Bool) → on ≡ b → IsOnCycle gates k → on ≡ true
      by true e cycle = e
      by false e cycle =
          let never : on ≡ true → ⊥ = λ is. let f : ◌≡◌ {A = Bool} true false = sym is ∙ e in absurd (cc) in
          elim (cases_lt (t + 1) (length opened)) [
            | inl two ↦ right.1 (inl two)
            | inr le ↦
                let inside : t < length opened = t_inside in
                let one : length opened ≡ t + 1 = omega (arith, inside, le) in
                let here : m.at ≡ t = let low : t ≤ m.at = m.from in let high : m.at < length opened = m.within in omega (arith, one) in
                absurd (alone one (λ uses. never (right.1 (inr uses))) (subst (λ g. IsOnCycle gates g) (sym m.named ∙ ap member here) cycle))
          ]

  taken : length (take t opened) ≡ t
  taken = length-take-le t opened (omega (arith, t_inside))

  at : (i : ℕ) → i < t → get_or (take t opened) i 0 ≡ member i
  at i h = get_or-take t opened i 0 h

  -- a gate before the group stays as it is
  stays_open : (i : ℕ) → i < t → stage_at new (member i) ≡ Open i
  stays_open i h =
      let within : i < length opened = omega (arith, t_inside) in
      elim (which (member i)) [
        | inl m ↦
            let e : m.at ≡ i = one_place (stage_at stages (member i)) m.at i m.is (tour.stands i within) in
            let low : t ≤ m.at = m.from in
            absurd (omega arith)
        | inr o ↦ o.same ∙ tour.stands i within
      ]

  pub done_tour : IsTour gates new (take t opened) rest older
  done_tour = record {
    places = closes.places ∙ tour.places;
    within = λ i h. let less : i < t = omega (arith, taken, h) in rw (at i less) (tour.within i (omega (arith, t_inside)));
    stands = λ i h. let less : i < t = omega (arith, taken, h) in ap (stage_at new) (at i less) ∙ stays_open i less;
    listed = λ k i is. elim (which k) [
      | inl m ↦ let e : ◌≡◌ {A = Stage} (Open i) (Done on) = sym is ∙ m.now in absurd (cc)
      | inr o ↦
          let was : stage_at stages k ≡ Open i = sym o.same ∙ is in
          let less : i < t = o.before i was in
          (omega (arith, taken, less), at i less ∙ (tour.listed k i was).1)
    ];
    onward = λ i k less h.
        let high : k < t = omega (arith, taken, h) in
        let low : i < t = omega arith in
        rw (at i low, at k high) (tour.onward i k less (omega (arith, t_inside)));
    back = λ i start begins less h.
        let low : i < t = omega (arith, taken, h) in
        let start_low : start < t = omega arith in
        rw (at i low, at start start_low) (tour.back i start (record {
          there = Contains-append_left older (t ∷ []) start begins.there;
          before = begins.before;
          most = λ y there le. elim (Contains-push_cases older t y there) [
            | inl old ↦ begins.most y old le
            | inr end ↦ absurd (omega (arith, end))
          ];
        }) less (omega (arith, t_inside)));
    closed = λ k h hk is hh uses. elim (which k) [
      | inl m ↦ member_closed m.at h m.from m.within hh (subst (λ g. Uses gates g h) (sym m.named) uses)
      | inr o ↦ stays_done h (tour.closed k h hk (ap is_done (sym o.same) ∙ is) hh uses)
    ];
    finished = λ i h hi away hh uses.
        let low : i < t = omega (arith, taken, hi) in
        elim (tour.finished i h (omega (arith, t_inside)) (λ on. elim (Contains-push_cases rest t i on) [
          | inl before ↦ away before
          | inr end ↦ absurd (omega (arith, end))
        ]) hh (subst (λ g. Uses gates g h) (at i low) uses)) [
          | inl done ↦ inl (stays_done h done)
          | inr stays ↦ elim (which h) [
            | inl m ↦ inl (now_done h m)
            | inr o ↦ inr (stays.0, (o.same ∙ stays.1.0, λ start there le. stays.1.1 start (Contains-append_left older (t ∷ []) start there) le))
          ]
        ];
    roots = λ start there.
        let low : start < t = rises_last older t tour.starts_rise start there in
        elim (Contains-push_cases rest t start (tour.roots start (Contains-append_left older (t ∷ []) start there))) [
          | inl before ↦ before
          | inr end ↦ absurd (omega (arith, end))
        ];
    path_rises = rises_front rest t tour.path_rises;
    path_within = λ i there. let low : i < t = rises_last rest t tour.path_rises i there in omega (arith, taken);
    starts_rise = rises_front older t tour.starts_rise;
    first = λ some. elim (Contains-push_cases older t 0 (tour.first (omega (arith, t_inside)))) [
      | inl old ↦ old
      | inr end ↦ absurd (omega (arith, taken, end))
    ];
    known = λ k b hk is. elim (which k) [
      | inl m ↦
          let same : Done on ≡ Done b = sym m.now ∙ is in
          let e : on ≡ b = cc in
          subst (λ (x : Bool). x ≡ true ↔ IsOnCycle gates k) e (is_known k m)
      | inr o ↦ tour.known k b hk (sym o.same ∙ is)
    ];
  }

  pub done_goes : Goes stages new
  done_goes = record {
    keeps_done = stays_done;
    no_new = λ k is. elim (which k) [
      | inl m ↦ let e : ◌≡◌ {A = Stage} New (Done on) = sym is ∙ m.now in absurd (cc)
      | inr o ↦ sym o.same ∙ is
    ];
  }

  pub done_lowers : left_to_do new rest older < left_to_do stages (rest ++ t ∷ []) (older ++ t ∷ [])
  done_lowers = let sum : sum_by weight new ≤ sum_by weight stages = closes.sum in omega (arith, length_push rest t, length_push older t)

-- == the same where the last numbers were taken off ==
pub one_greatest : (xs : List ℕ) (x y : ℕ) → IsGreatest xs x → IsGreatest xs y → x ≡ y
one_greatest xs x y a b = let up : x ≤ y = b.most x a.there in let down : y ≤ x = a.most y b.there in omega arith

split_at : (xs rest : List ℕ) (t last : ℕ) → xs ≡ rest ++ last ∷ [] → Rises xs → IsGreatest xs t → xs ≡ rest ++ t ∷ []
split_at xs rest t last split rises top =
    let end : IsGreatest (rest ++ last ∷ []) last = greatest rest last (subst Rises split rises) in
    split ∙ ap (λ (x : ℕ). rest ++ x ∷ []) (one_greatest (rest ++ last ∷ []) last t end (subst (λ (l : List ℕ). IsGreatest l t) split top))

-- what a step to a shorter path leaves
pub record Leaves (gates : List Gate) (stages new : List Stage) (path starts : List ℕ) (opened rest older : List ℕ) : Type 0 where
  pub tour : IsTour gates new opened rest older
  pub goes : Goes stages new
  pub lower : left_to_do new rest older < left_to_do stages path starts

pub leave_gate : (gates : List Gate) (stages : List Stage) (opened path rest starts : List ℕ) (t s last : ℕ) → IsTour gates stages opened path starts → path ≡ rest ++ last ∷ [] → IsGreatest path t → IsGreatest starts s
    → s ≢ t → IsReady gates stages opened t s → Leaves gates stages stages path starts opened rest starts
leave_gate gates stages opened path rest starts t s last tour split top greatest_start apart ready =
    let e : path ≡ rest ++ t ∷ [] = split_at path rest t last split tour.path_rises top in
    let tour' : IsTour gates stages opened (rest ++ t ∷ []) starts = subst (λ (l : List ℕ). IsTour gates stages opened l starts) e tour in
    record {
      tour = leave_tour gates stages opened rest starts t tour' s greatest_start apart ready;
      goes = record { keeps_done = λ k is. is; no_new = λ k is. is };
      lower = rw e (leave_lowers gates stages opened rest starts t tour' s greatest_start apart ready);
    }

pub finish_group : (gates : List Gate) (table : List (Option ℕ)) → Finds gates table → (stages new : List Stage) (opened path starts rest older : List ℕ) (t last_path last_start : ℕ) (on : Bool)
    → IsTour gates stages opened path starts → path ≡ rest ++ last_path ∷ [] → starts ≡ older ++ last_start ∷ [] → IsGreatest path t → IsGreatest starts t → IsReady gates stages opened t t
    → (on ≡ true ↔ ((t + 1 < length opened) ⊎ Uses gates (get_or opened t 0) (get_or opened t 0))) → Closes stages new opened t (length opened) on
    → Leaves gates stages new path starts (take t opened) rest older
finish_group gates table finds stages new opened path starts rest older t last_path last_start on tour split_path split_starts top start ready right closes =
    let e : path ≡ rest ++ t ∷ [] = split_at path rest t last_path split_path tour.path_rises top in
    let f : starts ≡ older ++ t ∷ [] = split_at starts older t last_start split_starts tour.starts_rise start in
    let tour' : IsTour gates stages opened (rest ++ t ∷ []) (older ++ t ∷ []) =
    subst (λ (l : List ℕ). IsTour gates stages opened (rest ++ t ∷ []) l) f (subst (λ (l : List ℕ). IsTour gates stages opened l starts) e tour) in
    record {
      tour = done_tour gates table finds stages new opened rest older t on tour' ready right closes;
      goes = done_goes gates table finds stages new opened rest older t on tour' ready right closes;
      lower = rw (e, f) (done_lowers gates table finds stages new opened rest older t on tour' ready right closes);
    }

-- what was written through a slice
pub written_back : (new old : List Stage) (n : ℕ) → n ≡ length old → length new ≡ length old → take n (new ++ drop (length new) old) ≡ new
written_back new old n e same = ap (λ (k : ℕ). take k (new ++ drop (length new) old)) (e ∙ sym same) ∙ take-append_seam new (drop (length new) old)

-- the last gate that is followed, and the last start
pub last_top : (xs : List ℕ) (x : ℕ) → Rises xs → (0 < length xs) × (get_or xs (length xs - 1) 0 ≡ x) → IsGreatest xs x
last_top xs x rises last = last_greatest xs x last.0 last.1 rises

-- where nothing is followed, nothing is open
none_there : {X : Type 0} (xs : List ℕ) (x : ℕ) → xs ≡ [] → Contains xs x → X
none_there xs x none there =
    let n : length xs ≡ 0 = ap length none in
    let inside : there.0 < length xs = there.1 in
    absurd (omega (arith, n, inside))

none_by : (opened : List ℕ) → (0 < length opened → ⊥) → opened ≡ []
none_by [] none = refl
none_by (g ∷ opened) none = absurd (none (omega arith))

pub nothing_open : (gates : List Gate) (stages : List Stage) (opened path starts : List ℕ) → IsTour gates stages opened path starts → path ≡ [] → opened ≡ []
nothing_open gates stages opened path starts tour none = none_by opened (λ some. none_there path 0 none (tour.roots 0 (tour.first some)))

pub goes_both : (a b c : List Stage) → Goes a b → Goes b c → Goes a c
goes_both a b c first second = record { keeps_done = λ k is. second.keeps_done k (first.keeps_done k is); no_new = λ k is. first.no_new k (second.no_new k is) }

-- where nothing is open, a gate that isn't new is done
pub done_by : (gates : List Gate) (stages : List Stage) (opened path starts : List ℕ) (k : ℕ) → IsTour gates stages opened path starts → opened ≡ [] → (stage_at stages k ≡ New → ⊥) → IsDone stages k
done_by gates stages opened path starts k tour none old = by (stage_at stages k) refl
  where
    by : (s : Stage) → stage_at stages k ≡ s → is_done (stage_at stages k) ≡ true
    by New e = absurd (old e)
    by (Open i) e =
        let inside : i < length opened = (tour.listed k i e).0 in
        let n : length opened ≡ 0 = ap length none in
        absurd (omega arith)
    by (Done on) e = ap is_done e

-- the first gate on a cycle, where all gates are done
stage_of : (s : Stage) → is_done s ≡ true → (on : Bool) × (s ≡ Done on)
stage_of New is = absurd (cc)
stage_of (Open i) is = absurd (cc)
stage_of (Done on) is = (on, refl)

pub cyclic : (gates : List Gate) (stages : List Stage) (opened path starts : List ℕ) (k : ℕ) → IsTour gates stages opened path starts → k < length gates → IsDone stages k → IsOnCycle gates k → stage_at stages k ≡ Done true
cyclic gates stages opened path starts k tour h is cycle =
    let s = stage_of (stage_at stages k) is in
    s.1 ∙ ap Done ((tour.known k s.0 h s.1).1 cycle)

pub first_of_tour : (gates : List Gate) (stages : List Stage) (opened path starts : List ℕ) (first : Option ℕ) → IsTour gates stages opened path starts → ((k : ℕ) → k < length gates → IsDone stages k)
    → MatchOption first ((k : ℕ) → k < length stages → stage_at stages k ≡ Done true → ⊥) (IsFirstDone stages)
    → MatchOption first ((k : ℕ) → k < length gates → IsOnCycle gates k → ⊥) (IsFirstCycle gates)
first_of_tour gates stages opened path starts None tour all none = λ k h cycle.
    none k (omega (arith, h, tour.places)) (cyclic gates stages opened path starts k tour h (all k h) cycle)
first_of_tour gates stages opened path starts (Some k) tour all first =
    let inside : k < length stages = first.within in
    record {
      within = omega (arith, inside, tour.places);
      itself = (tour.known k true (omega (arith, inside, tour.places)) first.here).0 refl;
      first = λ i less cycle.
          let h : i < length gates = omega (arith, inside, tour.places) in
          first.before i less (cyclic gates stages opened path starts i tour h (all i h) cycle);
    }
