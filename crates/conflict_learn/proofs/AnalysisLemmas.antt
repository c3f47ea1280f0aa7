-- The steps of the analysis of a conflict.
use Rattle.std.proofs.Common.{◌≡◌, ◌≢◌, ℕ, suc, zero, ◌<◌, ◌≤◌, true, false, List, [], ◌∷◌, ◌++◌, ◌⊎◌, inl, inr, Option, Some, None, reverse, take, slice_get, length, Contains, All, refl, sym, subst, ap, ◌∙◌, true≢false, arith}
use Rattle.std.specs.Option.{option_map_or, option_and_then}
use Rattle.std.proofs.lemmas.List.{reverse-append, length-take}
use Rattle.std.proofs.lemmas.List.Elements.{All-contains, Contains-push, Contains-append_left, Contains-push_cases}
use Rattle.std.proofs.lemmas.Option.{slice_get_within}
use Rattle.std_lemmas.proofs.Booleans.{not_same}
use Rattle.std_lemmas.proofs.Lists.{Contains-head, Contains-later, Contains-none, Contains-cases, Contains-slice_get, All-from_contains, slice_get-take}
use Rattle.propositional_logic.specs.Literal.{Literal, negated}
use Rattle.propositional_logic.specs.Clause.{IsClause}
use Rattle.propositional_logic.specs.Partial.{is_falsified, unit_of}
use Rattle.propositional_logic.proofs.Tests.{Decides-is_falsified, unit_found}
use Rattle.refutation_log.specs.Follows.{clause_named, is_falsified_named, leads_to_conflict}
use Rattle.unit_propagate.specs.declared.marks.Mark.{Mark}
use Rattle.unit_propagate.specs.Trail.{IsTrail, literals_of}
use Rattle.unit_propagate.specs.Sound.{IsReason}
use Rattle.unit_propagate.proofs.Places.{slice_get-Contains}
use Rattle.unit_propagate.proofs.TrailLemmas.{literal-of, mark-of}
use Rattle.unit_propagate.proofs.PropagatorLemmas.{same_literal, negated-negated}
use Rattle.conflict_learn.specs.Learnt.{level_in, clause_level}
use Rattle.conflict_learn.specs.Analysis.{HasFalsifier, FalsifiesOne, AreUpTo, IsResolved, IsLeft, IsBefore, IsAfter, IsAnalysis}
use Rattle.conflict_learn.proofs.LevelLemmas.{same_place, same_mark, level_up, level_at, clause_above, clause_attains}

-- one more hint, whose clause is unit
leads_cons : (clauses : List (List Literal)) (trues : List Literal) (n : ℕ) (hs : List ℕ) (c : List Literal) (l : Literal) → ((h : ℕ) × (t : List ℕ) × (hs ≡ h ∷ t))
    → clause_named clauses n ≡ Some c → unit_of trues c ≡ Some l → leads_to_conflict clauses (l ∷ trues) hs ≡ true → leads_to_conflict clauses trues (n ∷ hs) ≡ true
leads_cons clauses trues n hs c l some named unit leads =
    ap (λ x. leads_to_conflict clauses trues (n ∷ x)) some.2
    ∙ ap (λ o. option_map_or (λ k. leads_to_conflict clauses (k ∷ trues) (some.0 ∷ some.1)) o false) (ap (option_and_then (unit_of trues)) named ∙ unit)
    ∙ ap (leads_to_conflict clauses (l ∷ trues)) (sym some.2) ∙ leads

reverse-push : (xs : List ℕ) (x : ℕ) → reverse (xs ++ x ∷ []) ≡ x ∷ reverse xs
reverse-push xs x = reverse-append xs (x ∷ [])

-- the clause of that number
pub falsified_clause : (clauses : List (List Literal)) (trues : List Literal) (n : ℕ) → is_falsified_named clauses trues n ≡ true → (c : List Literal) × (clause_named clauses n ≡ Some c) × (is_falsified trues c ≡ true)
falsified_clause clauses trues n h = by (clause_named clauses n) refl
  where
    by : (o : Option (List Literal)) → clause_named clauses n ≡ o → (c : List Literal) × (clause_named clauses n ≡ Some c) × (is_falsified trues c ≡ true)
    by None e = absurd (true≢false (sym h ∙ ap (λ o. option_map_or (is_falsified trues) o false) e))
    by (Some c) e = (c, e, sym (ap (λ o. option_map_or (is_falsified trues) o false) e) ∙ h)

-- a literal isn't its own opposite
apart : (l : Literal) → negated l ≢ l
apart l e = not_same l.positive (ap (λ (k : Literal). k.positive) e)

-- ---- the start

module _ (clauses : List (List Literal)) (vars : ℕ) (marks : List Mark) (trail : IsTrail vars marks) (number : ℕ) (c : List Literal) (named : clause_named clauses number ≡ Some c)
    (falsified : is_falsified (literals_of marks) c ≡ true) (places : List ℕ)
    (all : (l : Literal) → Contains c l → Contains (literals_of marks) (negated l) → HasFalsifier marks places l)
    (only : (q : ℕ) → Contains places q → FalsifiesOne marks c q) where
  all_false : (l : Literal) → Contains c l → Contains (literals_of marks) (negated l)
  all_false l h = All-contains (λ l. Contains (literals_of marks) (negated l)) c l ((Decides-is_falsified (literals_of marks) c).0 falsified) h

  start_levels : AreUpTo marks (clause_level marks c) places
  start_levels q m h at =
      let f = only q h in
      let same = same_mark marks q q m f.0 refl at f.2 in
      let lv : level_in marks f.1.var ≡ m.level = level_at vars marks q m f.1.var trail at (ap (λ (x : Mark). x.lit.var) same ∙ ap (λ (x : Literal). x.var) f.4) in
      let up : level_in marks f.1.var ≤ clause_level marks c = clause_above marks c f.1 f.3 in
      omega arith

  start_phase : (0 < clause_level marks c) ⊎ (clause_level marks c ≡ 0) → ((clause_level marks c ≡ 0) × (◌≡◌ {A = List Literal} [] [])) ⊎ ((0 < clause_level marks c) × (IsBefore marks (clause_level marks c) places [] ⊎ IsAfter marks (clause_level marks c) places []))
  start_phase (inr z) = inl (z, refl)
  start_phase (inl p) =
      let l = clause_attains marks c p in
      let f = all l.0 l.1 (all_false l.0 l.1) in
      inr (
        p,
        inl (record {
          place = f.0;
          mark = f.1;
          to_come = f.2;
          there = f.3;
          on_top = sym (level_at vars marks f.0 f.1 l.0.var trail f.3 (ap (λ (x : Literal). x.var) f.4)) ∙ l.2;
          none = λ l q m h. absurd (Contains-none l h);
        }),
      )

  pub started : IsAnalysis clauses marks (clause_level marks c) (length marks) places [] (number ∷ [])
  started = record {
    low = All-from_contains (λ q. q < length marks) places (λ q h. let f = only q h in slice_get_within marks q f.0 f.2);
    within = omega arith;
    levels = start_levels;
    kept = λ l h. absurd (Contains-none l h);
    some = (number, [], refl);
    leads = λ trues by_place _ _. ap (λ o. option_map_or (is_falsified trues) o false) named ∙ (Decides-is_falsified trues c).1
        (All-from_contains (λ l. Contains trues (negated l)) c (λ l h. let f = all l h (all_false l h) in subst (Contains trues) f.4 (by_place f.0 f.1 f.2 f.3)));
    phase = start_phase (positive (clause_level marks c));
  }
    where
      positive : (n : ℕ) → (0 < n) ⊎ (n ≡ 0)
      positive zero = inr refl
      positive (suc n) = inl (omega arith)

-- ---- a step at a place

module _ (clauses : List (List Literal)) (vars : ℕ) (marks : List Mark) (trail : IsTrail vars marks) (top bound : ℕ) (before rest : List ℕ) (place : ℕ) (lits : List Literal) (hints : List ℕ)
    (a : IsAnalysis clauses marks top bound before lits hints) (is : before ≡ rest ++ place ∷ []) (rest_low : All (λ q. q < place) rest) where
  here : Contains before place
  here = subst (λ xs. Contains xs place) (sym is) (Contains-push rest place)

  in_before : (q : ℕ) → Contains rest q → Contains before q
  in_before q h = subst (λ xs. Contains xs q) (sym is) (Contains-append_left rest (place ∷ []) q h)

  below_bound : place < bound
  below_bound = All-contains (λ q. q < bound) before place a.low here

  was : (q : ℕ) → Contains before q → Contains rest q ⊎ (place ≡ q)
  was q h = Contains-push_cases rest place q (subst (λ xs. Contains xs q) is h)

  -- the literal is kept
  module _ (left : IsLeft marks rest place top) where
    kept_cases : (l : Literal) → Contains (lits ++ negated left.mark.lit ∷ []) l → Contains lits l ⊎ (negated left.mark.lit ≡ l)
    kept_cases l h = Contains-push_cases lits (negated left.mark.lit) l h

    keep_leads : (trues : List Literal) → ((q : ℕ) (m : Mark) → Contains rest q → slice_get marks q ≡ Some m → Contains trues m.lit)
        → ((l : Literal) → Contains (lits ++ negated left.mark.lit ∷ []) l → Contains trues (negated l))
        → ((t : Literal) → Contains trues t → ((q : ℕ) × (m : Mark) × (q < place) × (slice_get marks q ≡ Some m) × (m.lit ≡ t)) ⊎ Contains (lits ++ negated left.mark.lit ∷ []) (negated t))
        → leads_to_conflict clauses trues (reverse hints) ≡ true
    keep_leads trues by_place by_lit only =
        let mine : Contains trues left.mark.lit = subst (Contains trues) (negated-negated left.mark.lit) (by_lit (negated left.mark.lit) (Contains-push lits (negated left.mark.lit))) in
        a.leads trues
        (λ q n h at. elim (was q h) [
          | inl r ↦ by_place q n r at
          | inr e ↦ subst (λ (x : Mark). Contains trues x.lit) (same_mark marks place q left.mark n e left.there at) mine
        ])
        (λ l h. by_lit l (Contains-append_left lits (negated left.mark.lit ∷ []) l h))
        (λ t h. elim (only t h) [
          | inl o ↦ inl (o.0, o.1, (let x : o.0 < place = o.2 in let y : place < bound = below_bound in omega arith), o.3, o.4)
          | inr c ↦ elim (kept_cases (negated t) c) [
            | inl d ↦ inr d
            | inr e ↦ inl (place, left.mark, below_bound, left.there, sym (negated-negated left.mark.lit) ∙ ap negated e ∙ negated-negated t)
          ]
        ])

    level_top : left.mark.level ≤ top
    level_top = a.levels place left.mark here left.there

    keep_phase : ((top ≡ 0) × (lits ≡ [])) ⊎ ((0 < top) × (IsBefore marks top before lits ⊎ IsAfter marks top before lits))
        → ((top ≡ 0) × (lits ++ negated left.mark.lit ∷ [] ≡ [])) ⊎ ((0 < top) × (IsBefore marks top rest (lits ++ negated left.mark.lit ∷ []) ⊎ IsAfter marks top rest (lits ++ negated left.mark.lit ∷ [])))
    keep_phase (inl z) = absurd (let x : top ≡ 0 = z.0 in let y : 0 < left.mark.level = left.above in let w : left.mark.level ≤ top = level_top in omega arith)
    keep_phase (inr (p, inl b)) =
        let on_top : left.mark.level ≡ top = elim (was b.place b.to_come) [
          | inl r ↦ let lt : b.place < place = All-contains (λ q. q < place) rest b.place rest_low r in
              let up : b.mark.level ≤ left.mark.level = level_up vars marks b.place place b.mark left.mark trail (omega arith) b.there left.there in
              let e : b.mark.level ≡ top = b.on_top in let w : left.mark.level ≤ top = level_top in omega arith
          | inr e ↦ ap (λ (x : Mark). x.level) (same_mark marks place b.place left.mark b.mark e left.there b.there) ∙ b.on_top
        ] in
        inr (
          p,
          inr (record {
            below = left.alone on_top;
            point = negated left.mark.lit;
            place = place;
            mark = left.mark;
            member = Contains-push lits (negated left.mark.lit);
            there = left.there;
            is = sym (negated-negated left.mark.lit);
            on_top = on_top;
            others = λ l q n h at e ne. elim (kept_cases l h) [ inl d ↦ b.none l q n d at e | inr s ↦ absurd (ne (sym s)) ];
          }),
        )
    keep_phase (inr (p, inr f)) =
        inr (
          p,
          inr (record {
            below = λ q n h at. f.below q n (in_before q h) at;
            point = f.point;
            place = f.place;
            mark = f.mark;
            member = Contains-append_left lits (negated left.mark.lit ∷ []) f.point f.member;
            there = f.there;
            is = f.is;
            on_top = f.on_top;
            others = λ l q n h at e ne. elim (kept_cases l h) [
              | inl d ↦ f.others l q n d at e ne
              | inr s ↦
                  let same : n.lit ≡ left.mark.lit = e ∙ ap negated (sym s) ∙ negated-negated left.mark.lit in
                  let pl = same_place vars marks q place n left.mark trail at left.there (ap (λ (x : Literal). x.var) same) in
                  f.below q n (subst (Contains before) (sym pl) here) at
            ];
          }),
        )

    pub left_kept : IsAnalysis clauses marks top place rest (lits ++ negated left.mark.lit ∷ []) hints
    left_kept = record {
      low = rest_low;
      within = let x : place < bound = below_bound in let y : bound ≤ length marks = a.within in omega arith;
      levels = λ q n h at. a.levels q n (in_before q h) at;
      kept = λ l h. elim (kept_cases l h) [
        | inl d ↦ let k = a.kept l d in (k.0, k.1, (let x : bound ≤ k.0 = k.2 in let y : place < bound = below_bound in omega arith), k.3, k.4, k.5)
        | inr e ↦ (place, left.mark, omega arith, left.there, sym (negated-negated left.mark.lit) ∙ ap negated e, level_top)
      ];
      some = a.some;
      leads = keep_leads;
      phase = keep_phase a.phase;
    }

  -- the literal is resolved by its reason
  module _ (reason : ℕ) (r : IsResolved marks rest place top reason) (c : List Literal) (named : clause_named clauses reason ≡ Some c) (sorted : IsClause c)
      (holds : IsReason clauses reason (literals_of (take place marks)) r.mark.lit) (after : List ℕ)
      (keeps : (q : ℕ) → Contains rest q → Contains after q)
      (all : (l : Literal) → Contains c l → Contains (literals_of marks) (negated l) → HasFalsifier marks after l)
      (only : (q : ℕ) → Contains after q → Contains rest q ⊎ FalsifiesOne marks c q) where
    same_clause : holds.clause ≡ c
    same_clause = let p = holds.named in let q = named in cc

    member : Contains c r.mark.lit
    member = subst (λ x. Contains x r.mark.lit) same_clause holds.member

    -- the other literals are made false before the place
    other_before : (l : Literal) → Contains c l → l ≢ r.mark.lit → (q : ℕ) × (n : Mark) × (q < place) × (slice_get marks q ≡ Some n) × (n.lit ≡ negated l)
    other_before l h ne =
        let k = mark-of (take place marks) (negated l) (holds.others_false l (subst (λ x. Contains x l) (sym same_clause) h) ne) in
        let i = slice_get-Contains (take place marks) k.0 k.1 in
        let lt = slice_get_within (take place marks) i.0 k.0 i.1 in
        (i.0, k.0, omega (arith, length-take place marks), slice_get-take place marks i.0 k.0 i.1, k.2)

    earlier : (q : ℕ) → Contains after q → q < place
    earlier q h = elim (only q h) [
      | inl d ↦ All-contains (λ q. q < place) rest q rest_low d
      | inr f ↦ elim (same_literal f.1 r.mark.lit) [
        | inl e ↦
            let v : f.0.lit.var ≡ r.mark.lit.var = ap (λ (x : Literal). x.var) f.4 ∙ ap (λ (x : Literal). x.var) e in
            let s = same_mark marks q place f.0 r.mark (same_place vars marks q place f.0 r.mark trail f.2 r.there v) f.2 r.there in
            absurd (apart r.mark.lit (sym (ap negated e) ∙ sym f.4 ∙ ap (λ (x : Mark). x.lit) s))
        | inr n ↦
            let o = other_before f.1 f.3 n in
            subst (λ x. x < place) (same_place vars marks o.0 q o.1 f.0 trail o.3 f.2 (ap (λ (x : Literal). x.var) (o.4 ∙ sym f.4))) o.2
      ]
    ]

    place_level : r.mark.level ≤ top
    place_level = a.levels place r.mark here r.there

    -- no literal of these is of the place's variable
    not_mine : (trues : List Literal) → ((t : Literal) → Contains trues t → ((q : ℕ) × (m : Mark) × (q < place) × (slice_get marks q ≡ Some m) × (m.lit ≡ t)) ⊎ Contains lits (negated t))
        → (t : Literal) → Contains trues t → t.var ≢ r.mark.lit.var
    not_mine trues only t h v = elim (only t h) [
      | inl o ↦ let e = same_place vars marks o.0 place o.1 r.mark trail o.3 r.there (ap (λ (x : Literal). x.var) o.4 ∙ v) in (let lt : o.0 < place = o.2 in omega arith)
      | inr d ↦
          let k = a.kept (negated t) d in
          let e = same_place vars marks k.0 place k.1 r.mark trail k.3 r.there (ap (λ (x : Literal). x.var) k.4 ∙ v) in
          (let le : bound ≤ k.0 = k.2 in let lt : place < bound = below_bound in omega arith)
    ]

    resolve_leads : (trues : List Literal) → ((q : ℕ) (m : Mark) → Contains after q → slice_get marks q ≡ Some m → Contains trues m.lit)
        → ((l : Literal) → Contains lits l → Contains trues (negated l))
        → ((t : Literal) → Contains trues t → ((q : ℕ) × (m : Mark) × (q < place) × (slice_get marks q ≡ Some m) × (m.lit ≡ t)) ⊎ Contains lits (negated t))
        → leads_to_conflict clauses trues (reason ∷ reverse hints) ≡ true
    resolve_leads trues by_place by_lit only' =
        leads_cons clauses trues reason (reverse hints) c r.mark.lit a.some named
        (unit_found trues c r.mark.lit sorted (record {
          member = member;
          not_true = λ h. not_mine trues only' r.mark.lit h refl;
          not_false = λ h. not_mine trues only' (negated r.mark.lit) h refl;
          others_false = λ l h ne. let o = other_before l h ne in
              let f = all l h (subst (Contains (literals_of marks)) o.4 (literal-of marks o.1 (Contains-slice_get marks o.0 o.1 o.3))) in
              subst (Contains trues) f.4 (by_place f.0 f.1 f.2 f.3);
        }))
        (a.leads (r.mark.lit ∷ trues)
        (λ q n h at. elim (was q h) [
          | inl d ↦ Contains-later r.mark.lit trues n.lit (by_place q n (keeps q d) at)
          | inr e ↦ subst (λ (x : Mark). Contains (r.mark.lit ∷ trues) x.lit) (same_mark marks place q r.mark n e r.there at) (Contains-head r.mark.lit trues)
        ])
        (λ l h. Contains-later r.mark.lit trues (negated l) (by_lit l h))
        (λ t h. elim (Contains-cases r.mark.lit trues t h) [
          | inl e ↦ inl (place, r.mark, below_bound, r.there, e)
          | inr d ↦ elim (only' t d) [
            | inl o ↦ inl (o.0, o.1, (let x : o.0 < place = o.2 in let y : place < bound = below_bound in omega arith), o.3, o.4)
            | inr k ↦ inr k
          ]
        ]))

    resolve_phase : ((top ≡ 0) × (lits ≡ [])) ⊎ ((0 < top) × (IsBefore marks top before lits ⊎ IsAfter marks top before lits))
        → ((top ≡ 0) × (lits ≡ [])) ⊎ ((0 < top) × (IsBefore marks top after lits ⊎ IsAfter marks top after lits))
    resolve_phase (inl z) = inl z
    resolve_phase (inr (p, inl b)) = elim r.level [
      | inl z ↦ still (let w : r.mark.level ≡ 0 = z in omega arith)
      | inr o ↦ elim o [
        | inl lt ↦ still lt
        | inr o ↦ inr (p, inl (record { place = o.1.0; mark = o.1.1; to_come = keeps o.1.0 o.1.2; there = o.1.3; on_top = o.1.4; none = b.none }))
      ]
    ]
      where
        -- the place on top is still to come
        still : r.mark.level < top → ((top ≡ 0) × (lits ≡ [])) ⊎ ((0 < top) × (IsBefore marks top after lits ⊎ IsAfter marks top after lits))
        still lt = elim (was b.place b.to_come) [
          | inl d ↦ inr (p, inl (record { place = b.place; mark = b.mark; to_come = keeps b.place d; there = b.there; on_top = b.on_top; none = b.none }))
          | inr e ↦ absurd (let s : r.mark.level ≡ b.mark.level = ap (λ (x : Mark). x.level) (same_mark marks place b.place r.mark b.mark e r.there b.there) in let t : b.mark.level ≡ top = b.on_top in omega arith)
        ]
    resolve_phase (inr (p, inr f)) =
        let mine : r.mark.level < top = f.below place r.mark here r.there in
        inr (
          p,
          inr (record {
            below = λ q n h at. elim (only q h) [
              | inl d ↦ f.below q n (in_before q d) at
              | inr g ↦ let up : n.level ≤ r.mark.level = level_up vars marks q place n r.mark trail (let lt : q < place = earlier q h in omega arith) at r.there in omega arith
            ];
            point = f.point;
            place = f.place;
            mark = f.mark;
            member = f.member;
            there = f.there;
            is = f.is;
            on_top = f.on_top;
            others = f.others;
          }),
        )

    pub resolved : IsAnalysis clauses marks top place after lits (hints ++ reason ∷ [])
    resolved = record {
      low = All-from_contains (λ q. q < place) after earlier;
      within = let x : place < bound = below_bound in let y : bound ≤ length marks = a.within in omega arith;
      levels = λ q n h at. let up : n.level ≤ r.mark.level = level_up vars marks q place n r.mark trail (let lt : q < place = earlier q h in omega arith) at r.there in let w : r.mark.level ≤ top = place_level in omega arith;
      kept = λ l h. let k = a.kept l h in (k.0, k.1, (let x : bound ≤ k.0 = k.2 in let y : place < bound = below_bound in omega arith), k.3, k.4, k.5);
      some = (reason, reverse hints, reverse-push hints reason);
      leads = λ trues by_place by_lit only'. ap (leads_to_conflict clauses trues) (reverse-push hints reason) ∙ resolve_leads trues by_place by_lit only';
      phase = resolve_phase a.phase;
    }
