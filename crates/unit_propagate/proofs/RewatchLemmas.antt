-- A clause watches another literal, and clauses are watched anew.
use Rattle.std.proofs.Common.{◌≡◌, ◌≢◌, ℕ, suc, zero, ◌+◌, ◌<◌, ◌≤◌, Bool, true, false, cond, not, filter, get_or, List, [], ◌∷◌, ◌++◌, ◌⊎◌, inl, inr, Some, set, slice_get, length, Contains, All, refl, sym, subst, ap, ◌∙◌, true≢false, arith}
use Rattle.std.specs.Prelude.{Result, Ok, Err, OnOk, OnErr, AllPairs}
use Rattle.std.proofs.lemmas.List.{length_push, length-set}
use Rattle.std.proofs.lemmas.List.Elements.{All-contains, All-nil, All-cons, All-weaker, Contains-append_left, Contains-push}
use Rattle.std.proofs.lemmas.List.Kept.{AllPairs-filter}
use Rattle.std.proofs.lemmas.Option.{slice_get_within}
use Rattle.std.proofs.lemmas.Bool.{cases_eq}
use Rattle.std_lemmas.proofs.Naturals.{lt_trichotomy}
use Rattle.std_lemmas.proofs.Lists.{Contains-head, Contains-later, Contains-cases, Contains-slice_get, slice_get-append, slice_get-push}
use Rattle.propositional_logic.specs.Literal.{Literal, negated, literal_eq}
use Rattle.propositional_logic.specs.Clause.{IsWithinVariables, IsClause, IsRisingFrom}
use Rattle.propositional_logic.proofs.Members.{Contains-filter, filter-Contains}
use Rattle.propositional_logic.specs.Equality.{Decides-literal_eq}
use Rattle.unit_propagate.specs.declared.marks.Mark.{Mark}
use Rattle.unit_propagate.specs.declared.propagator.Propagator.{Propagator}
use Rattle.unit_propagate.specs.declared.rows.Watcher.{Watcher}
use Rattle.unit_propagate.specs.Trail.{IsTrail, highest_level, literals_of}
use Rattle.unit_propagate.specs.Marks.{MarkList, room_of}
use Rattle.unit_propagate.specs.Watched.{IsWatching, IsWatchOf, IsWatched}
use Rattle.propositional_logic.specs.Codes.{code_of}
use Rattle.unit_propagate.specs.Rows.{row_at}
use Rattle.unit_propagate.specs.Watches.{WatchList, IsListed, Guard, Rewatches, CanRewatch, Adds, AddsAlone, KeepsWatches, RowsGrow, IsSide, IsWatchedIn, exchanged, ordered, differs}
use Rattle.unit_propagate.specs.Propagator.{IsKeptPropagator, StandsAt, IsVisiting, Goes, Stays}
use Rattle.unit_propagate.proofs.Places.{slice_get-Contains, slice_get-set_same, slice_get-set_other, slice_get-last, slice_get-front, AllPairs-slice_get, All-slice_get}
use Rattle.unit_propagate.proofs.TrailLemmas.{literal-of, mark-of, highest_above}
use Rattle.unit_propagate.proofs.RowsLemmas.{RowsGrow-adds, added_there}
use Rattle.unit_propagate.proofs.CodeLemmas.{code_same}
use Rattle.unit_propagate.proofs.PropagatorLemmas.{same_literal, later, Goes-trans}
use Rattle.unit_propagate.proofs.StepLemmas.{list_fits}

-- elements that are apart come once
once_in : (xs : List Literal) → AllPairs (λ (p q : Literal). p ≢ q) xs → (i j : ℕ) (x : Literal) → slice_get xs i ≡ Some x → slice_get xs j ≡ Some x → i ≡ j
once_in xs h i j x a b = elim (lt_trichotomy i j) [
  | inl l ↦ absurd (AllPairs-slice_get (λ (p q : Literal). p ≢ q) xs i j x x h l a b refl)
  | inr r ↦ elim r [ inl e ↦ e | inr l ↦ absurd (AllPairs-slice_get (λ (p q : Literal). p ≢ q) xs j i x x h l b a refl) ]
]

-- the literals of a clause are of different variables
rising_above : (v : ℕ) (c : List Literal) → IsRisingFrom v c → All (λ (l : Literal). v < l.var) c
rising_above v [] r = All-nil (λ l. v < l.var)
rising_above v (x ∷ c) r = All-cons (λ (l : Literal). v < l.var) x c r.0 (All-weaker (λ (l : Literal). x.var < l.var) (λ l. v < l.var) (λ l h. let a : v < x.var = r.0 in omega arith) c (rising_above x.var c r.1))

rising_apart : (v : ℕ) (c : List Literal) → IsRisingFrom v c → AllPairs (λ (p q : Literal). p ≢ q) c
rising_apart v [] r i j d l m e = omega arith
rising_apart v (x ∷ c) r zero zero d l m e = omega arith
rising_apart v (x ∷ c) r zero (suc j) d l m e =
    let a : x.var < (get_or c j d).var = rising_above x.var c r.1 j d (omega arith) in let b : x.var ≡ (get_or c j d).var = ap (λ (l : Literal). l.var) e in omega arith
rising_apart v (x ∷ c) r (suc i) zero d l m e = omega arith
rising_apart v (x ∷ c) r (suc i) (suc j) d l m e = rising_apart x.var c r.1 i j d (omega arith) (omega arith) e

clause_apart : (c : List Literal) → IsClause c → AllPairs (λ (p q : Literal). p ≢ q) c
clause_apart c r = rising_apart 0 c r

-- two literals of a clause change places
module _ (c : List Literal) (p j : ℕ) (from to : Literal) (at_p : slice_get c p ≡ Some from) (at_j : slice_get c j ≡ Some to) (n : p ≢ j) where
  size_after : length (exchanged c p j from to) ≡ length c
  size_after = length-set (set c p to) j from ∙ length-set c p to

  now_p : slice_get (exchanged c p j from to) p ≡ Some to
  now_p = slice_get-set_other (set c p to) j p from n ∙ slice_get-set_same c p to (slice_get_within c p from at_p)

  now_j : slice_get (exchanged c p j from to) j ≡ Some from
  now_j = slice_get-set_same (set c p to) j from (let e : length (set c p to) ≡ length c = length-set c p to in let l : j < length c = slice_get_within c j to at_j in omega arith)

  now_other : (q : ℕ) → q ≢ p → q ≢ j → slice_get (exchanged c p j from to) q ≡ slice_get c q
  now_other q np nj = slice_get-set_other (set c p to) j q from nj ∙ slice_get-set_other c p q to np

  origin : (q : ℕ) (x : Literal) → slice_get (exchanged c p j from to) q ≡ Some x → ((q ≡ p) × (x ≡ to)) ⊎ (((q ≡ j) × (x ≡ from)) ⊎ ((q ≢ p) × (q ≢ j) × (slice_get c q ≡ Some x)))
  origin q x h = elim (cases_eq q p) [
    | inl e ↦ inl (e, let a = now_p in let b : slice_get (exchanged c p j from to) p ≡ Some x = subst (λ y. slice_get (exchanged c p j from to) y ≡ Some x) e h in cc)
    | inr np ↦ inr (elim (cases_eq q j) [
      | inl e ↦ inl (e, let a = now_j in let b : slice_get (exchanged c p j from to) j ≡ Some x = subst (λ y. slice_get (exchanged c p j from to) y ≡ Some x) e h in cc)
      | inr nj ↦ inr (np, nj, sym (now_other q np nj) ∙ h)
    ])
  ]

  all_after : (x : Literal) → Contains c x → Contains (exchanged c p j from to) x
  all_after x h =
      let q = slice_get-Contains c x h in
      elim (cases_eq q.0 p) [
        | inl e ↦ let a : slice_get c p ≡ Some x = subst (λ y. slice_get c y ≡ Some x) e q.1 in let b = at_p in let s : from ≡ x = cc in
            subst (Contains (exchanged c p j from to)) s (Contains-slice_get (exchanged c p j from to) j from now_j)
        | inr np ↦ elim (cases_eq q.0 j) [
          | inl e ↦ let a : slice_get c j ≡ Some x = subst (λ y. slice_get c y ≡ Some x) e q.1 in let b = at_j in let s : to ≡ x = cc in
              subst (Contains (exchanged c p j from to)) s (Contains-slice_get (exchanged c p j from to) p to now_p)
          | inr nj ↦ Contains-slice_get (exchanged c p j from to) q.0 x (now_other q.0 np nj ∙ q.1)
        ]
      ]

  only_after : (x : Literal) → Contains (exchanged c p j from to) x → Contains c x
  only_after x h =
      let q = slice_get-Contains (exchanged c p j from to) x h in
      elim (origin q.0 x q.1) [
        | inl a ↦ subst (Contains c) (sym a.1) (Contains-slice_get c j to at_j)
        | inr r ↦ elim r [ inl b ↦ subst (Contains c) (sym b.1) (Contains-slice_get c p from at_p) | inr o ↦ Contains-slice_get c q.0 x o.2 ]
      ]

  once_after : ((i k : ℕ) (x : Literal) → slice_get c i ≡ Some x → slice_get c k ≡ Some x → i ≡ k) → (i k : ℕ) (x : Literal)
      → slice_get (exchanged c p j from to) i ≡ Some x → slice_get (exchanged c p j from to) k ≡ Some x → i ≡ k
  once_after once i k x a b = elim (origin i x a) [
    | inl f ↦ elim (origin k x b) [
      | inl g ↦ f.0 ∙ sym g.0
      | inr r ↦ elim r [
        | inl g ↦ absurd (n (once p j from at_p (subst (λ y. slice_get c j ≡ Some y) (sym f.1 ∙ g.1) at_j)))
        | inr o ↦ absurd (o.1 (once k j x o.2 (subst (λ y. slice_get c j ≡ Some y) (sym f.1) at_j)))
      ]
    ]
    | inr s ↦ elim s [
      | inl f ↦ elim (origin k x b) [
        | inl g ↦ absurd (n (once p j from at_p (subst (λ y. slice_get c j ≡ Some y) (sym g.1 ∙ f.1) at_j)))
        | inr r ↦ elim r [
          | inl g ↦ f.0 ∙ sym g.0
          | inr o ↦ absurd (o.0 (once k p x o.2 (subst (λ y. slice_get c p ≡ Some y) (sym f.1) at_p)))
        ]
      ]
      | inr o ↦ elim (origin k x b) [
        | inl g ↦ absurd (o.1 (once i j x o.2 (subst (λ y. slice_get c j ≡ Some y) (sym g.1) at_j)))
        | inr r ↦ elim r [
          | inl g ↦ absurd (o.0 (once i p x o.2 (subst (λ y. slice_get c p ≡ Some y) (sym g.1) at_p)))
          | inr q ↦ once i k x o.2 q.2
        ]
      ]
    ]
  ]

  watch_after : (clause : List Literal) → IsWatchOf clause c → IsWatchOf clause (exchanged c p j from to)
  watch_after clause is = record {
    some = let e : length (exchanged c p j from to) ≡ length c = size_after in let l : 0 < length c = is.some in omega arith;
    all = λ x h. all_after x (is.all x h);
    only = λ x h. is.only x (only_after x h);
    once = once_after is.once;
  }

-- clause k watches to in place of from, which is false, besides other, and is passed
module _ (clauses : List (List Literal)) (s : Propagator) (w : WatchList) (from to other : Literal) (f i : ℕ) (u n : Watcher) (p j : ℕ) (c : List Literal)
    (v : IsVisiting clauses s from f i) (r : Rewatches s.watches w n p j from to) (same : u.clause ≡ n.clause) (blocks : Contains c n.blocker)
    (at : slice_get (row_at s.watches.rows (code_of from)) i ≡ Some u) (there : slice_get s.watches.watched n.clause ≡ Some c) (side : IsSide c from p other)
    (high : 2 ≤ j) (at_j : slice_get c j ≡ Some to) (alive : Contains (literals_of s.marks.marks) (negated to) → ⊥) where
  abbrev k : ℕ
  k = n.clause

  abbrev after : List Literal
  after = exchanged c p j from to

  low_p : p < 2
  low_p = elim side.1 [ inl h ↦ (let e : p ≡ 0 = h.0 in omega arith) | inr h ↦ (let e : p ≡ 1 = h.0 in omega arith) ]

  apart : p ≢ j
  apart e = absurd (let l = low_p in omega arith)

  at_p : slice_get c p ≡ Some from
  at_p = elim side.1 [ inl h ↦ ap (slice_get c) h.0 ∙ h.1 | inr h ↦ ap (slice_get c) h.0 ∙ h.1 ]

  to_from : to ≢ from
  to_from e = alive (subst (λ l. Contains (literals_of s.marks.marks) (negated l)) (sym e) v.falsified)

  old_is : (clause : List Literal) × (slice_get clauses k ≡ Some clause) × IsWatchOf clause c
  old_is = v.watching k c there

  other_from : other ≢ from
  other_from e = elim side.1 [
    | inl h ↦ absurd (let z : 0 ≡ 1 = old_is.2.once 0 1 from h.1 (h.2 ∙ ap Some e) in omega arith)
    | inr h ↦ absurd (let z : 0 ≡ 1 = old_is.2.once 0 1 from (h.2 ∙ ap Some e) h.1 in omega arith)
  ]

  codes : code_of from ≢ code_of to
  codes e = to_from (sym (code_same from to e))

  other_watched : IsWatched c other
  other_watched = (side.0, elim side.1 [ inl h ↦ inr h.2 | inr h ↦ inl h.2 ])

  -- the literals that are watched now
  watched_now : (x : Literal) → IsWatched after x → (x ≡ to) ⊎ (x ≡ other)
  watched_now x h = elim side.1 [
    | inl o ↦ elim h.1 [
      | inl a ↦ inl (let b : slice_get after 0 ≡ Some to = subst (λ y. slice_get after y ≡ Some to) o.0 (now_p c p j from to at_p at_j apart) in cc)
      | inr a ↦ inr (let b : slice_get after 1 ≡ Some other = now_other c p j from to at_p at_j apart 1 (λ e. absurd (let z : p ≡ 0 = o.0 in omega arith)) (λ e. absurd (omega arith)) ∙ o.2 in cc)
    ]
    | inr o ↦ elim h.1 [
      | inl a ↦ inr (let b : slice_get after 0 ≡ Some other = now_other c p j from to at_p at_j apart 0 (λ e. absurd (let z : p ≡ 1 = o.0 in omega arith)) (λ e. absurd (omega arith)) ∙ o.2 in cc)
      | inr a ↦ inl (let b : slice_get after 1 ≡ Some to = subst (λ y. slice_get after y ≡ Some to) o.0 (now_p c p j from to at_p at_j apart) in cc)
    ]
  ]

  more_after : 1 < length after
  more_after = let e : length after ≡ length c = size_after c p j from to at_p at_j apart in let l : 1 < length c = side.0 in omega arith

  not_alone : (x : Literal) → after ≡ x ∷ [] → ⊥
  not_alone x e = let l : length after ≡ 1 = ap length e in let m : 1 < length after = more_after in omega arith

  low : k < length s.watches.watched
  low = slice_get_within s.watches.watched k c there

  is_set : w.watched ≡ set s.watches.watched k after
  is_set = r.watched c there

  same_at : (q : ℕ) (d : List Literal) → slice_get w.watched q ≡ Some d → ((q ≡ k) × (d ≡ after)) ⊎ ((q ≢ k) × (slice_get s.watches.watched q ≡ Some d))
  same_at q d h = elim (cases_eq q k) [
    | inl e ↦ inl (
      e,
      let a : slice_get w.watched k ≡ Some d = subst (λ x. slice_get w.watched x ≡ Some d) e h in
          let b : slice_get w.watched k ≡ Some after = ap (λ ps. slice_get ps k) is_set ∙ slice_get-set_same s.watches.watched k after low in cc,
    )
    | inr n ↦ inr (n, sym (slice_get-set_other s.watches.watched k q after n) ∙ sym (ap (λ ps. slice_get ps q) is_set) ∙ h)
  ]

  -- the lists
  grown : RowsGrow s.watches.rows w.rows
  grown = RowsGrow-adds s.watches.rows w.rows (code_of to) n r.adds

  same_row : row_at w.rows (code_of from) ≡ row_at s.watches.rows (code_of from)
  same_row = r.adds.others (code_of from) codes

  -- the clause at the place is this one
  still_to_come : (q : ℕ) (d : List Literal) → q ≢ k → StandsAt (λ g. i ≤ g) s.watches.rows from q d → StandsAt (λ g. i + 1 ≤ g) w.rows from q d
  still_to_come q d m h = elim (later s.watches.rows from i u q d at h) [
    | inl e ↦ absurd (m (sym e.0 ∙ same))
    | inr b ↦ (b.0, b.1, b.2, ap (λ xs. slice_get xs b.0) same_row ∙ b.3, b.4, b.5)
  ]

  still_there : (q : ℕ) (d : List Literal) → StandsAt (λ g. g < f) s.watches.rows from q d → StandsAt (λ g. g < f) w.rows from q d
  still_there q d h = (h.0, h.1, h.2, ap (λ xs. slice_get xs h.0) same_row ∙ h.3, h.4, h.5)

  kept_in_list : (l : Literal) (q : ℕ) (d : List Literal) → IsWatchedIn s.watches.rows l q d → IsWatchedIn w.rows l q d
  kept_in_list l q d h = (h.0, grown.stays (code_of l) h.0 h.1, h.2, h.3)

  to_listed : IsWatchedIn w.rows to k after
  to_listed = (n, added_there s.watches.rows w.rows (code_of to) n r.adds, refl, all_after c p j from to at_p at_j apart n.blocker blocks)

  other_listed : IsWatchedIn w.rows other k after
  other_listed =
      let h : IsWatchedIn s.watches.rows other k c = v.kept.listed.listed k c other there other_watched in
      (h.0, grown.stays (code_of other) h.0 h.1, h.2, all_after c p j from to at_p at_j apart h.0.blocker h.3)

  in_list : (l : Literal) → (l ≡ to) ⊎ (l ≡ other) → IsWatchedIn w.rows l k after
  in_list l (inl e) = subst (λ x. IsWatchedIn w.rows x k after) (sym e) to_listed
  in_list l (inr e) = subst (λ x. IsWatchedIn w.rows x k after) (sym e) other_listed

  -- to isn't false, and other is so only where some literal of the clause is true
  guard_any : (a : Literal) → (a ≡ to) ⊎ (a ≡ other) → Guard s.marks.marks s.place s.kept a after
  guard_any a (inl e) q m lt here f =
      absurd (alive (subst (λ x. Contains (literals_of s.marks.marks) (negated x)) e (subst (Contains (literals_of s.marks.marks)) f (literal-of s.marks.marks m (Contains-slice_get s.marks.marks q m here)))))
  guard_any a (inr e) q m lt here f =
      let g = v.kept.guarded k c other there other_watched q m lt here (f ∙ ap negated e) in
      (g.0, g.1, all_after c p j from to at_p at_j apart g.0.lit g.2, g.3)

  unit_before : (q : ℕ) (l : Literal) → slice_get w.watched q ≡ Some (l ∷ []) → slice_get s.watches.watched q ≡ Some (l ∷ [])
  unit_before q l h = elim (same_at q (l ∷ []) h) [ inl a ↦ absurd (not_alone l (sym a.1)) | inr b ↦ b.1 ]

  listed : IsListed (room_of s.marks.vars) w
  listed = record {
    size = r.adds.size ∙ v.kept.listed.size;
    listed = λ q d l h is. elim (same_at q d h) [
      | inl e ↦ subst (λ y. IsWatchedIn w.rows l y d) (sym e.0) (subst (IsWatchedIn w.rows l k) (sym e.1) (in_list l (watched_now l (subst (λ x. IsWatched x l) e.1 is))))
      | inr e ↦ kept_in_list l q d (v.kept.listed.listed q d l e.1 is)
    ];
    alone = λ q l h. subst (λ us. Contains us q) (sym r.units) (v.kept.listed.alone q l (unit_before q l h));
    units = λ q u h.
        let o = v.kept.listed.units q u (ap (λ us. slice_get us q) (sym r.units) ∙ h) in
        (o.0, ap (λ ps. slice_get ps u) is_set ∙ slice_get-set_other s.watches.watched k u after (λ e. unit_not u o.0 o.1 e) ∙ o.1);
  }
    where
      unit_not : (u : ℕ) (x : Literal) → slice_get s.watches.watched u ≡ Some (x ∷ []) → u ≡ k → ⊥
      unit_not u x h q =
          let a : slice_get s.watches.watched k ≡ Some (x ∷ []) = subst (λ y. slice_get s.watches.watched y ≡ Some (x ∷ [])) q h in
          let b = there in
          let e : c ≡ x ∷ [] = cc in
          let l : length c ≡ 1 = ap length e in
          let m : 1 < length c = side.0 in
          omega arith

  kept_after : IsKeptPropagator (record s { watches = w })
  kept_after = record {
    listed = listed;
    guarded = λ q d l h is. elim (same_at q d h) [
      | inl e ↦ subst (Guard s.marks.marks s.place s.kept l) (sym e.1) (guard_any l (watched_now l (subst (λ x. IsWatched x l) e.1 is)))
      | inr e ↦ v.kept.guarded q d l e.1 is
    ];
    done = λ q u l lt h here. v.kept.done q u l lt (ap (λ us. slice_get us q) (sym r.units) ∙ h) (unit_before u l here);
    place = v.kept.place;
    kept = v.kept.kept;
    forced = subst (λ us. s.done ≤ length us) (sym r.units) v.kept.forced;
  }

  watching_after : IsWatching clauses w.watched
  watching_after q d h = elim (same_at q d h) [
    | inl e ↦ (old_is.0, ap (slice_get clauses) e.0 ∙ old_is.1, subst (IsWatchOf old_is.0) (sym e.1) (watch_after c p j from to at_p at_j apart old_is.0 old_is.2))
    | inr e ↦ v.watching q d e.1
  ]

  not_from : (l : Literal) → (l ≡ to) ⊎ (l ≡ other) → l ≢ from
  not_from l (inl e) q = to_from (sym e ∙ q)
  not_from l (inr e) q = other_from (sym e ∙ q)

  pub rewatched : IsVisiting clauses (record s { watches = w }) from f (i + 1)
  rewatched = record {
    kept = kept_after;
    watching = watching_after;
    falsified = v.falsified;
    order = let o : f ≤ i = v.order in omega arith;
    seen = λ q d h is. elim (same_at q d h) [
      | inl e ↦ absurd (not_from from (watched_now from (subst (λ x. IsWatched x from) e.1 is)) refl)
      | inr e ↦ elim (v.seen q d e.1 is) [ inl t ↦ inl (t.0, still_there q d t.1) | inr t ↦ inr (still_to_come q d e.0 t) ]
    ];
  }

  pub rewatched_goes : Goes clauses s (record s { watches = w })
  rewatched_goes = record {
    kept = kept_after;
    watching = watching_after;
    vars = refl;
    extends = λ first x. x;
    size = let e : length w.watched ≡ length s.watches.watched = ap length is_set ∙ length-set s.watches.watched k after in omega arith;
  }

  pub rewatched_stays : Stays s (record s { watches = w })
  rewatched_stays = record { size = ap length is_set ∙ length-set s.watches.watched k after; units = unit_before; place = refl }

  pub rewatched_row : length (row_at w.rows (code_of from)) ≡ length (row_at s.watches.rows (code_of from))
  rewatched_row = ap length same_row

-- the clause may watch to in place of from
pub rewatchable : (clauses : List (List Literal)) (s : Propagator) (from to other : Literal) (f i k p j : ℕ) (c : List Literal) → IsVisiting clauses s from f i
    → slice_get s.watches.watched k ≡ Some c → IsSide c from p other → slice_get c j ≡ Some to → All (IsWithinVariables s.marks.vars) clauses → CanRewatch s.watches k p j from to
rewatchable clauses s from to other f i k p j c v there side at_j within = record {
  clause = c;
  there = there;
  at_p = elim side.1 [ inl h ↦ ap (slice_get c) h.0 ∙ h.1 | inr h ↦ ap (slice_get c) h.0 ∙ h.1 ];
  at_j = at_j;
  to_fits = λ h. list_fits s to v.kept (let w = v.watching k c there in
      All-contains (λ (x : Literal). x.var ≤ s.marks.vars) w.0 to (All-slice_get (IsWithinVariables s.marks.vars) clauses k w.0 within w.1) (w.2.only to (Contains-slice_get c j to at_j))) h;
}

-- ---- a clause is watched anew

old_or_last : (old new : List (List Literal)) (watch : List Literal) (q : ℕ) (d : List Literal) → new ≡ old ++ watch ∷ [] → slice_get new q ≡ Some d
    → (slice_get old q ≡ Some d) ⊎ ((q ≡ length old) × (watch ≡ d))
old_or_last old new watch q d e h = slice_get-push old watch q d (ap (λ ps. slice_get ps q) (sym e) ∙ h)

pub IsKept-adds : (s : Propagator) (w : WatchList) (watch : List Literal) → IsKeptPropagator s → Adds s.watches w watch → ((l : Literal) → IsWatched watch l → Guard s.marks.marks s.place s.kept l watch)
    → IsKeptPropagator (record s { watches = w })
IsKept-adds s w watch k a g = record {
  listed = record {
    size = a.grow.size ∙ k.listed.size;
    listed = λ q d l h is. elim (old_or_last s.watches.watched w.watched watch q d a.watched h) [
      | inl o ↦ let h = k.listed.listed q d l o is in (h.0, a.grow.stays (code_of l) h.0 h.1, h.2, h.3)
      | inr e ↦ subst (λ y. IsWatchedIn w.rows l y d) (sym e.0) (subst (IsWatchedIn w.rows l (length s.watches.watched)) e.1 (a.listed l (subst (λ x. IsWatched x l) (sym e.1) is)))
    ];
    alone = λ q l h. subst (λ us. Contains us q) (sym a.units) (k.listed.alone q l (unit_old q l h));
    units = λ q u h.
        let o = k.listed.units q u (ap (λ us. slice_get us q) (sym a.units) ∙ h) in
        (o.0, ap (λ ps. slice_get ps u) a.watched ∙ slice_get-append s.watches.watched (watch ∷ []) u (o.0 ∷ []) o.1);
  };
  guarded = λ q d l h is. elim (old_or_last s.watches.watched w.watched watch q d a.watched h) [
    | inl o ↦ k.guarded q d l o is
    | inr e ↦ subst (Guard s.marks.marks s.place s.kept l) e.1 (g l (subst (λ x. IsWatched x l) (sym e.1) is))
  ];
  done = λ q u l lt h there. k.done q u l lt (ap (λ us. slice_get us q) (sym a.units) ∙ h) (unit_old u l there);
  place = k.place;
  kept = k.kept;
  forced = subst (λ us. s.done ≤ length us) (sym a.units) k.forced;
}
  where
    unit_old : (q : ℕ) (l : Literal) → slice_get w.watched q ≡ Some (l ∷ []) → slice_get s.watches.watched q ≡ Some (l ∷ [])
    unit_old q l h = elim (old_or_last s.watches.watched w.watched watch q (l ∷ []) a.watched h) [
      | inl o ↦ o
      | inr e ↦ absurd (let n : length watch ≡ 1 = ap length e.1 in let m : 1 < length watch = a.more in omega arith)
    ]

pub IsKept-alone : (s : Propagator) (w : WatchList) (l : Literal) → IsKeptPropagator s → AddsAlone s.watches w l → IsKeptPropagator (record s { watches = w })
IsKept-alone s w l k a = record {
  listed = record {
    size = ap length a.rows ∙ k.listed.size;
    listed = λ q d x h is. elim (old_or_last s.watches.watched w.watched (l ∷ []) q d a.watched h) [
      | inl o ↦ subst (λ rows. IsWatchedIn rows x q d) (sym a.rows) (k.listed.listed q d x o is)
      | inr e ↦ absurd (not_one x (subst (λ y. IsWatched y x) (sym e.1) is))
    ];
    alone = λ q x h. subst (λ us. Contains us q) (sym a.units) (elim (old_or_last s.watches.watched w.watched (l ∷ []) q (x ∷ []) a.watched h) [
      | inl o ↦ Contains-append_left s.watches.units (length s.watches.watched ∷ []) q (k.listed.alone q x o)
      | inr e ↦ subst (Contains (s.watches.units ++ length s.watches.watched ∷ [])) (sym e.0) (Contains-push s.watches.units (length s.watches.watched))
    ]);
    units = λ q u h. elim (unit_at q u h) [
      | inl o ↦ let p = k.listed.units q u o in (p.0, ap (λ ps. slice_get ps u) a.watched ∙ slice_get-append s.watches.watched ((l ∷ []) ∷ []) u (p.0 ∷ []) p.1)
      | inr e ↦ (l, ap (λ ps. slice_get ps u) a.watched ∙ ap (slice_get (s.watches.watched ++ (l ∷ []) ∷ [])) (sym e.1) ∙ slice_get-last s.watches.watched (l ∷ []))
    ];
  };
  guarded = λ q d x h is. elim (old_or_last s.watches.watched w.watched (l ∷ []) q d a.watched h) [
    | inl o ↦ k.guarded q d x o is
    | inr e ↦ absurd (not_one x (subst (λ y. IsWatched y x) (sym e.1) is))
  ];
  done = λ q u x lt h there. elim (unit_at q u h) [
    | inl o ↦
        let p = k.listed.units q u o in
        let b : slice_get w.watched u ≡ Some (p.0 ∷ []) = ap (λ ps. slice_get ps u) a.watched ∙ slice_get-append s.watches.watched ((l ∷ []) ∷ []) u (p.0 ∷ []) p.1 in
        let e : p.0 ≡ x = cc in
        k.done q u x lt o (subst (λ y. slice_get s.watches.watched u ≡ Some (y ∷ [])) e p.1)
    | inr e ↦ absurd (let f : s.done ≤ length s.watches.units = k.forced in let z : q ≡ length s.watches.units = e.0 in omega arith)
  ];
  place = k.place;
  kept = k.kept;
  forced = let f : s.done ≤ length s.watches.units = k.forced in let e : length w.units ≡ length s.watches.units + 1 = ap length a.units ∙ length_push s.watches.units (length s.watches.watched) in omega arith;
}
  where
    not_one : (x : Literal) → IsWatched (l ∷ []) x → ⊥
    not_one x is = let h : 1 < 1 = is.0 in omega arith

    unit_at : (q u : ℕ) → slice_get w.units q ≡ Some u → (slice_get s.watches.units q ≡ Some u) ⊎ ((q ≡ length s.watches.units) × (length s.watches.watched ≡ u))
    unit_at q u h = slice_get-push s.watches.units (length s.watches.watched) q u (ap (λ us. slice_get us q) (sym a.units) ∙ h)

pub IsKept-keeps : (s : Propagator) (w : WatchList) → IsKeptPropagator s → KeepsWatches s.watches w → IsKeptPropagator (record s { watches = w })
IsKept-keeps s w k a = record {
  listed = record {
    size = a.grow.size ∙ k.listed.size;
    listed = λ q d l h is. let o = k.listed.listed q d l (at q d h) is in (o.0, a.grow.stays (code_of l) o.0 o.1, o.2, o.3);
    alone = λ q l h. subst (λ us. Contains us q) (sym a.units) (k.listed.alone q l (at q (l ∷ []) h));
    units = λ q u h. let p = k.listed.units q u (ap (λ us. slice_get us q) (sym a.units) ∙ h) in (p.0, ap (λ ps. slice_get ps u) a.watched ∙ p.1);
  };
  guarded = λ q d l h is. k.guarded q d l (at q d h) is;
  done = λ q u l lt h there. k.done q u l lt (ap (λ us. slice_get us q) (sym a.units) ∙ h) (at u (l ∷ []) there);
  place = k.place;
  kept = k.kept;
  forced = subst (λ us. s.done ≤ length us) (sym a.units) k.forced;
}
  where
    at : (q : ℕ) (d : List Literal) → slice_get w.watched q ≡ Some d → slice_get s.watches.watched q ≡ Some d
    at q d h = ap (λ ps. slice_get ps q) (sym a.watched) ∙ h

IsWatching-more : (clauses old new : List (List Literal)) (watch clause : List Literal) → IsWatching clauses old → new ≡ old ++ watch ∷ [] → slice_get clauses (length old) ≡ Some clause → IsWatchOf clause watch
    → IsWatching clauses new
IsWatching-more clauses old new watch clause w e named is q d h = elim (old_or_last old new watch q d e h) [
  | inl o ↦ w q d o
  | inr f ↦ (clause, ap (slice_get clauses) f.0 ∙ named, subst (IsWatchOf clause) f.1 is)
]

pub Goes-adds : (clauses : List (List Literal)) (s : Propagator) (w : WatchList) (watch clause : List Literal) → IsKeptPropagator s → IsWatching clauses s.watches.watched → Adds s.watches w watch
    → slice_get clauses (length s.watches.watched) ≡ Some clause → IsWatchOf clause watch → ((l : Literal) → IsWatched watch l → Guard s.marks.marks s.place s.kept l watch)
    → Goes clauses s (record s { watches = w })
Goes-adds clauses s w watch clause k o a named is g = record {
  kept = IsKept-adds s w watch k a g;
  watching = IsWatching-more clauses s.watches.watched w.watched watch clause o a.watched named is;
  vars = refl;
  extends = λ first x. x;
  size = let e : length w.watched ≡ length s.watches.watched + 1 = ap length a.watched ∙ length_push s.watches.watched watch in omega arith;
}

pub Goes-alone : (clauses : List (List Literal)) (s : Propagator) (w : WatchList) (l : Literal) (clause : List Literal) → IsKeptPropagator s → IsWatching clauses s.watches.watched → AddsAlone s.watches w l
    → slice_get clauses (length s.watches.watched) ≡ Some clause → IsWatchOf clause (l ∷ []) → Goes clauses s (record s { watches = w })
Goes-alone clauses s w l clause k o a named is = record {
  kept = IsKept-alone s w l k a;
  watching = IsWatching-more clauses s.watches.watched w.watched (l ∷ []) clause o a.watched named is;
  vars = refl;
  extends = λ first x. x;
  size = let e : length w.watched ≡ length s.watches.watched + 1 = ap length a.watched ∙ length_push s.watches.watched (l ∷ []) in omega arith;
}

pub Goes-keeps : (clauses : List (List Literal)) (s : Propagator) (w : WatchList) → IsKeptPropagator s → IsWatching clauses s.watches.watched → KeepsWatches s.watches w → Goes clauses s (record s { watches = w })
Goes-keeps clauses s w k o a = record {
  kept = IsKept-keeps s w k a;
  watching = λ q d h. o q d (ap (λ ps. slice_get ps q) (sym a.watched) ∙ h);
  vars = refl;
  extends = λ first x. x;
  size = let e : length w.watched ≡ length s.watches.watched = ap length a.watched in omega arith;
}

-- a clause's own literals, two of them first
module _ (c : List Literal) (first second : Literal) where
  pub ordered_sides : (l : Literal) → IsWatched (ordered c first second) l → (l ≡ first) ⊎ (l ≡ second)
  ordered_sides l h = elim h.1 [ inl a ↦ inl (cc) | inr b ↦ inr (cc) ]

  pub ordered_more : 1 < length (ordered c first second)
  ordered_more = omega arith

  abbrev rest : List Literal
  rest = filter (differs first second) c

  differs_then : (x : Literal) → differs first second x ≡ true → (x ≢ first) × (x ≢ second)
  differs_then x h = by (literal_eq x first) refl h
    where
      by_second : (t : Bool) → literal_eq x second ≡ t → not t ≡ true → x ≢ second
      by_second true e q s = true≢false (sym q)
      by_second false e q s = true≢false (sym ((Decides-literal_eq x second).1 s) ∙ e)

      by : (t : Bool) → literal_eq x first ≡ t → cond t false (not (literal_eq x second)) ≡ true → (x ≢ first) × (x ≢ second)
      by true e q = absurd (true≢false (sym q))
      by false e q = ((λ s. true≢false (sym ((Decides-literal_eq x first).1 s) ∙ e)), by_second (literal_eq x second) refl q)

  then_differs : (x : Literal) → x ≢ first → x ≢ second → differs first second x ≡ true
  then_differs x n m = by (literal_eq x first) refl
    where
      by_second : (t : Bool) → literal_eq x second ≡ t → not t ≡ true
      by_second true e = absurd (m ((Decides-literal_eq x second).0 e))
      by_second false e = refl

      by : (t : Bool) → literal_eq x first ≡ t → cond t false (not (literal_eq x second)) ≡ true
      by true e = absurd (n ((Decides-literal_eq x first).0 e))
      by false e = by_second (literal_eq x second) refl

  rest_in : (x : Literal) → Contains rest x → Contains c x × (x ≢ first) × (x ≢ second)
  rest_in x h = let a = Contains-filter (differs first second) c x h in let d = differs_then x a.1 in (a.0, d.0, d.1)

  module _ (sorted : IsClause c) (first_in : Contains c first) (second_in : Contains c second) (n : first ≢ second) where
    pub ordered_all : (x : Literal) → Contains c x → Contains (ordered c first second) x
    ordered_all x h = elim (same_literal x first) [
      | inl e ↦ subst (Contains (ordered c first second)) (sym e) (Contains-head first (second ∷ rest))
      | inr nf ↦ Contains-later first (second ∷ rest) x (elim (same_literal x second) [
        | inl e ↦ subst (Contains (second ∷ rest)) (sym e) (Contains-head second rest)
        | inr ns ↦ Contains-later second rest x (filter-Contains (differs first second) c x h (then_differs x nf ns))
      ])
    ]

    ordered_only : (x : Literal) → Contains (ordered c first second) x → Contains c x
    ordered_only x h = elim (Contains-cases first (second ∷ rest) x h) [
      | inl e ↦ subst (Contains c) e first_in
      | inr r ↦ elim (Contains-cases second rest x r) [ inl e ↦ subst (Contains c) e second_in | inr q ↦ (rest_in x q).0 ]
    ]

    ordered_once : (i j : ℕ) (x : Literal) → slice_get (ordered c first second) i ≡ Some x → slice_get (ordered c first second) j ≡ Some x → i ≡ j
    ordered_once zero zero x a b = refl
    ordered_once zero (suc zero) x a b = absurd (n (cc))
    ordered_once zero (suc (suc j)) x a b = absurd ((rest_in x (Contains-slice_get rest j x b)).1 (cc))
    ordered_once (suc zero) zero x a b = absurd (n (cc))
    ordered_once (suc zero) (suc zero) x a b = refl
    ordered_once (suc zero) (suc (suc j)) x a b = absurd ((rest_in x (Contains-slice_get rest j x b)).2 (cc))
    ordered_once (suc (suc i)) zero x a b = absurd ((rest_in x (Contains-slice_get rest i x a)).1 (cc))
    ordered_once (suc (suc i)) (suc zero) x a b = absurd ((rest_in x (Contains-slice_get rest i x a)).2 (cc))
    ordered_once (suc (suc i)) (suc (suc j)) x a b = ap (λ k. suc (suc k)) (once_in rest apart i j x a b)
      where
        apart : AllPairs (λ (p q : Literal). p ≢ q) rest
        apart = AllPairs-filter (λ (p q : Literal). p ≢ q) (differs first second) c (clause_apart c sorted)

    pub IsWatchOf-ordered : IsWatchOf c (ordered c first second)
    IsWatchOf-ordered = record { some = omega arith; all = ordered_all; only = ordered_only; once = ordered_once }

-- a literal that isn't false needs no partner
pub guard_alive : (marks : List Mark) (place kept : ℕ) (a : Literal) (c : List Literal) → (Contains (literals_of marks) (negated a) → ⊥) → Guard marks place kept a c
guard_alive marks place kept a c alive i m lt at e = absurd (alive (subst (Contains (literals_of marks)) e (literal-of marks m (Contains-slice_get marks i m at))))

-- a clause is watched whose first two literals aren't false
pub Goes-watched : (clauses : List (List Literal)) (s : Propagator) (w : WatchList) (clause : List Literal) (first second : Literal) → IsKeptPropagator s → IsWatching clauses s.watches.watched
    → Adds s.watches w (ordered clause first second) → slice_get clauses (length s.watches.watched) ≡ Some clause → IsClause clause → Contains clause first → Contains clause second → first ≢ second
    → (Contains (literals_of s.marks.marks) (negated first) → ⊥) → (Contains (literals_of s.marks.marks) (negated second) → ⊥) → Goes clauses s (record s { watches = w })
Goes-watched clauses s w clause first second k o a named sorted in_first in_second n open_first open_second =
    Goes-adds clauses s w (ordered clause first second) clause k o a named (IsWatchOf-ordered clause first second sorted in_first in_second n) (λ l h. elim (ordered_sides clause first second l h) [
      | inl e ↦ subst (λ x. Guard s.marks.marks s.place s.kept x (ordered clause first second)) (sym e) (guard_alive s.marks.marks s.place s.kept first (ordered clause first second) open_first)
      | inr e ↦ subst (λ x. Guard s.marks.marks s.place s.kept x (ordered clause first second)) (sym e) (guard_alive s.marks.marks s.place s.kept second (ordered clause first second) open_second)
    ])

pub IsKept-lower : (s : Propagator) (kept : ℕ) → kept ≤ s.kept → IsKeptPropagator s → IsKeptPropagator (record s { kept = kept })
IsKept-lower s kept le k = record {
  listed = k.listed;
  guarded = λ j c l at is i m lt there e. let g = k.guarded j c l at is i m lt there e in (g.0, g.1, g.2, λ low. g.3 (omega arith));
  done = k.done;
  place = k.place;
  kept = let h : s.kept ≤ s.place = k.kept in omega arith;
  forced = k.forced;
}

pub Goes-lower : (clauses : List (List Literal)) (s : Propagator) (kept : ℕ) → kept ≤ s.kept → IsKeptPropagator s → IsWatching clauses s.watches.watched → Goes clauses s (record s { kept = kept })
Goes-lower clauses s kept le k w = record { kept = IsKept-lower s kept le k; watching = w; vars = refl; extends = λ first x. x; size = omega arith }

-- a clause of which all literals but one are false is watched, that one being true now
module _ (s : Propagator) (after : MarkList) (kept place : ℕ) (m : Mark) (first : Literal) (c : List Literal) (more : List Mark)
    (k : IsKeptPropagator s) (grown : after.marks ≡ s.marks.marks ++ more) (trail : IsTrail after.vars after.marks) (alive : Contains (literals_of s.marks.marks) (negated first) → ⊥)
    (holds : Contains (literals_of after.marks) first) (first_in : Contains c first) (at : slice_get after.marks place ≡ Some m)
    (low : place < kept → (m : Mark) → slice_get after.marks place ≡ Some m → highest_level after.marks ≤ m.level) where
  guard_first : Guard after.marks s.place kept first c
  guard_first i x lt there e =
      absurd (alive (subst (Contains (literals_of s.marks.marks)) e (literal-of s.marks.marks x (Contains-slice_get s.marks.marks i x
      (let p : s.place ≤ length s.marks.marks = k.place in
      sym (slice_get-front s.marks.marks more i (omega arith)) ∙ ap (λ ms. slice_get ms i) (sym grown) ∙ there)))))

  guard_second : (second : Literal) → second ≡ negated m.lit → Guard after.marks s.place kept second c
  guard_second second is i x lt there e =
      let n = mark-of after.marks first holds in
      (n.0, n.1, subst (Contains c) (sym n.2) first_in, λ l. by i x there e l n.0 n.1 (lt_trichotomy i place))
    where
      by : (i : ℕ) (x : Mark) → slice_get after.marks i ≡ Some x → x.lit ≡ negated second → i < kept → (n : Mark) → Contains after.marks n → (i < place) ⊎ ((i ≡ place) ⊎ (place < i)) → n.level ≤ x.level
      by i x there e l n c o =
          let v : x.lit.var ≡ m.lit.var = ap (λ (y : Literal). y.var) (e ∙ ap negated is) in
          elim o [
            | inl a ↦ absurd (AllPairs-slice_get (λ (p q : Mark). p.lit.var ≢ q.lit.var) after.marks i place x m trail.once a there at v)
            | inr q ↦ elim q [
              | inl same ↦
                  let here : slice_get after.marks place ≡ Some x = subst (λ y. slice_get after.marks y ≡ Some x) same there in
                  let top : highest_level after.marks ≤ x.level = low (subst (λ y. y < kept) same l) x here in
                  let above : n.level ≤ highest_level after.marks = All-contains (λ (y : Mark). y.level ≤ highest_level after.marks) after.marks n (highest_above after.marks) c in
                  omega arith
              | inr b ↦ absurd (AllPairs-slice_get (λ (p q : Mark). p.lit.var ≢ q.lit.var) after.marks place i m x trail.once b at there (sym v))
            ]
          ]

-- the whole way: the literal becomes true, and then the clause is watched
pub forced_goes : (clauses : List (List Literal)) (s s' : Propagator) (kept place : ℕ) (m : Mark) (first second : Literal) (more : List Mark) (w : WatchList) (clause : List Literal)
    → s' ≡ record s { marks = s'.marks } → Goes clauses s s' → s'.marks.marks ≡ s.marks.marks ++ more → IsTrail s'.marks.vars s'.marks.marks → (Contains (literals_of s.marks.marks) (negated first) → ⊥)
    → Contains (literals_of s'.marks.marks) first → slice_get s'.marks.marks place ≡ Some m → kept ≤ s'.kept
    → (place < kept → (m : Mark) → slice_get s'.marks.marks place ≡ Some m → highest_level s'.marks.marks ≤ m.level)
    → IsKeptPropagator s → second ≡ negated m.lit → first ≢ second → Adds s'.watches w (ordered clause first second) → slice_get clauses (length s'.watches.watched) ≡ Some clause
    → IsClause clause → Contains clause first → Contains clause second → Goes clauses s (record s' { kept = kept; watches = w })
forced_goes clauses s s' kept place m first second more w clause same g grew trail alive holds at le highest k is n adds named sorted in_first in_second =
    Goes-trans clauses s s' (record s' { kept = kept; watches = w }) g
    (Goes-trans clauses s' (record s' { kept = kept }) (record s' { kept = kept; watches = w }) (Goes-lower clauses s' kept le g.kept g.watching)
    (Goes-adds clauses (record s' { kept = kept }) w (ordered clause first second) clause (IsKept-lower s' kept le g.kept) g.watching adds named
    (IsWatchOf-ordered clause first second sorted in_first in_second n) guards))
  where
    place' : s'.place ≡ s.place
    place' = ap (λ (x : Propagator). x.place) same

    first_there : Contains (ordered clause first second) first
    first_there = ordered_all clause first second sorted in_first in_second n first in_first

    guards : (l : Literal) → IsWatched (ordered clause first second) l → Guard s'.marks.marks s'.place kept l (ordered clause first second)
    guards l h = elim (ordered_sides clause first second l h) [
      | inl e ↦ subst (λ y. Guard s'.marks.marks s'.place kept y (ordered clause first second)) (sym e) (subst (λ x. Guard s'.marks.marks x kept first (ordered clause first second)) (sym place') (guard_first s s'.marks kept place m first (ordered clause first second) more k grew trail alive holds first_there at highest))
      | inr e ↦ subst (λ y. Guard s'.marks.marks s'.place kept y (ordered clause first second)) (sym e) (subst (λ x. Guard s'.marks.marks x kept second (ordered clause first second)) (sym place') (guard_second s s'.marks kept place m first (ordered clause first second) more k grew trail alive holds first_there at highest second is))
    ]

pub forced_keeps : (clauses : List (List Literal)) (s s' : Propagator) (kept : ℕ) (w : WatchList) → Goes clauses s s' → kept ≤ s'.kept → KeepsWatches s'.watches w → Goes clauses s (record s' { kept = kept; watches = w })
forced_keeps clauses s s' kept w g le keeps =
    Goes-trans clauses s s' (record s' { kept = kept; watches = w }) g
    (Goes-trans clauses s' (record s' { kept = kept }) (record s' { kept = kept; watches = w }) (Goes-lower clauses s' kept le g.kept g.watching)
    (Goes-keeps clauses (record s' { kept = kept }) w (IsKept-lower s' kept le g.kept) g.watching keeps))

-- a literal of a clause is of one of the variables
pub clause_within : (vars : ℕ) (clauses : List (List Literal)) (k : ℕ) (clause : List Literal) (l : Literal) → All (IsWithinVariables vars) clauses → slice_get clauses k ≡ Some clause → Contains clause l → l.var ≤ vars
clause_within vars clauses k clause l h named there = All-contains (λ (x : Literal). x.var ≤ vars) clause l (All-slice_get (IsWithinVariables vars) clauses k clause h named) there

-- whether or not there was memory
pub Goes-added : {T E : Type 0} (clauses : List (List Literal)) (s : Propagator) (w : WatchList) (l : Literal) (clause : List Literal) (r : Result T E) → OnOk r (AddsAlone s.watches w l) → OnErr r (KeepsWatches s.watches w)
    → IsKeptPropagator s → IsWatching clauses s.watches.watched → slice_get clauses (length s.watches.watched) ≡ Some clause → IsWatchOf clause (l ∷ []) → Goes clauses s (record s { watches = w })
Goes-added clauses s w l clause (Ok x) ok err k o named is = Goes-alone clauses s w l clause k o ok named is
Goes-added clauses s w l clause (Err e) ok err k o named is = Goes-keeps clauses s w k o err

-- a clause of one literal
pub one_watch : (c : List Literal) (l : Literal) → c ≡ l ∷ [] → IsWatchOf c (l ∷ [])
one_watch c l e = record {
  some = omega arith;
  all = λ x h. subst (λ d. Contains d x) e h;
  only = λ x h. subst (λ d. Contains d x) (sym e) h;
  once = once_in (l ∷ []) (λ i j d lt h. absurd (let z : j < 1 = h in omega arith));
}

-- the same after the literal was made true, and the place kept lowered
pub forced_added : {T E : Type 0} (clauses : List (List Literal)) (s s' s'' : Propagator) (place : ℕ) (m : Mark) (first second : Literal) (more : List Mark) (w : WatchList) (clause : List Literal) (r : Result T E)
    → s' ≡ record s { marks = s'.marks } → s'' ≡ record s' { kept = s''.kept } → Goes clauses s s' → s'.marks.marks ≡ s.marks.marks ++ more → IsTrail s'.marks.vars s'.marks.marks
    → (Contains (literals_of s.marks.marks) (negated first) → ⊥) → Contains (literals_of s'.marks.marks) first → slice_get s''.marks.marks place ≡ Some m → s''.kept ≤ s'.kept
    → (place < s''.kept → (m : Mark) → slice_get s'.marks.marks place ≡ Some m → highest_level s'.marks.marks ≤ m.level)
    → IsKeptPropagator s → second ≡ negated m.lit → first ≢ second → OnOk r (Adds s''.watches w (ordered clause first second)) → OnErr r (KeepsWatches s''.watches w)
    → slice_get clauses (length s.watches.watched) ≡ Some clause → IsClause clause → Contains clause first → Contains clause second → Goes clauses s (record s'' { watches = w })
forced_added {T} {E} clauses s s' s'' place m first second more w clause r same lowered g grew trail alive holds at le highest k is n ok err named sorted in_first in_second =
    subst (λ (x : Propagator). Goes clauses s (record x { watches = w })) (sym lowered) (by r ok' err')
  where
    watches : s''.watches ≡ s'.watches
    watches = ap (λ (x : Propagator). x.watches) lowered

    ok' : OnOk r (Adds s'.watches w (ordered clause first second))
    ok' = subst (λ (x : WatchList). OnOk r (Adds x w (ordered clause first second))) watches ok

    err' : OnErr r (KeepsWatches s'.watches w)
    err' = subst (λ (x : WatchList). OnErr r (KeepsWatches x w)) watches err

    at' : slice_get s'.marks.marks place ≡ Some m
    at' = subst (λ (x : MarkList). slice_get x.marks place ≡ Some m) (ap (λ (x : Propagator). x.marks) lowered) at

    named' : slice_get clauses (length s'.watches.watched) ≡ Some clause
    named' = subst (λ (x : WatchList). slice_get clauses (length x.watched) ≡ Some clause) (sym (ap (λ (x : Propagator). x.watches) same)) named

    by : (r : Result T E) → OnOk r (Adds s'.watches w (ordered clause first second)) → OnErr r (KeepsWatches s'.watches w) → Goes clauses s (record s' { kept = s''.kept; watches = w })
    by (Ok x) o e = forced_goes clauses s s' s''.kept place m first second more w clause same g grew trail alive holds at' le highest k is n o named' sorted in_first in_second
    by (Err x) o e = forced_keeps clauses s s' s''.kept w g le e
