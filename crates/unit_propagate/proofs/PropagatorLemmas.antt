-- What a propagator keeps when a literal is added to its trail, and when a clause is looked at.
use Rattle.std.proofs.Common.{◌≡◌, ◌≢◌, ℕ, suc, zero, ◌+◌, ◌-◌, ◌<◌, ◌≤◌, max, Bool, true, false, not, cond, List, [], ◌∷◌, ◌++◌, ◌⊎◌, inl, inr, Some, None, take, slice_get, length, Contains, All, refl, sym, subst, ap, ◌∙◌, true≢false, append_assoc, arith}
use Rattle.std.specs.Prelude.{nat_eq}
use Rattle.std.specs.Option.{option_map_or}
use Rattle.std.proofs.lemmas.List.{length_push, length-set, map-append}
use Rattle.std.proofs.lemmas.List.Elements.{All-push, All-weaker, All-contains, Contains-append_left, Contains-push}
use Rattle.std.proofs.lemmas.Option.{slice_get_within}
use Rattle.std.proofs.lemmas.Bool.Decides.{Decides-eqb}
use Rattle.std.proofs.lemmas.Bool.{cases_eq}
use Rattle.std_lemmas.proofs.Lists.{Contains-slice_get, All-from_contains, slice_get-push}
use Rattle.propositional_logic.specs.Literal.{Literal, negated, literal_eq}
use Rattle.propositional_logic.specs.Equality.{Decides-literal_eq}
use Rattle.propositional_logic.specs.Partial.{is_falsified}
use Rattle.propositional_logic.proofs.Tests.{Decides-is_falsified, fails}
use Rattle.refutation_log.specs.Follows.{clause_named, is_falsified_named}
use Rattle.refutation_log.proofs.Lists.{take-append, take-append_all}
use Rattle.unit_propagate.specs.declared.marks.Mark.{Mark}
use Rattle.unit_propagate.specs.declared.propagator.Propagator.{Propagator}
use Rattle.unit_propagate.specs.declared.rows.Watcher.{Watcher}
use Rattle.unit_propagate.specs.Trail.{IsFree, highest_level, literals_of}
use Rattle.unit_propagate.specs.Sound.{IsReason, Extends}
use Rattle.unit_propagate.specs.Marks.{MarkList}
use Rattle.unit_propagate.specs.Watched.{IsWatching, IsWatched, HasTrue}
use Rattle.propositional_logic.specs.Codes.{code_of}
use Rattle.unit_propagate.specs.Rows.{row_at}
use Rattle.unit_propagate.specs.Watches.{WatchList, Guard, IsWatchedIn, Keeps, CutsWatches}
use Rattle.unit_propagate.specs.Propagator.{IsKeptPropagator, StandsAt, IsVisiting, IsVisited, Goes, Stays}
use Rattle.unit_propagate.proofs.Places.{slice_get-front, slice_get-Contains, slice_get-set_same, slice_get-set_other, Contains-cut}
use Rattle.unit_propagate.proofs.CodeLemmas.{code_same}
use Rattle.unit_propagate.proofs.TrailLemmas.{highest_above, highest_bound, highest-append, mark-of, literal-of}

pub same_literal : (a b : Literal) → (a ≡ b) ⊎ (a ≢ b)
same_literal a b = by (literal_eq a b) refl
  where
    by : (t : Bool) → literal_eq a b ≡ t → (a ≡ b) ⊎ (a ≢ b)
    by true e = inl ((Decides-literal_eq a b).0 e)
    by false e = inr (λ s. true≢false (sym ((Decides-literal_eq a b).1 s) ∙ e))

pub negated-negated : (l : Literal) → negated (negated l) ≡ l
negated-negated l = by l.var l.positive
  where
    by : (v : ℕ) (p : Bool) → negated (negated (record { var = v; positive = p })) ≡ record { var = v; positive = p }
    by v true = refl
    by v false = refl

-- ---- a longer trail

pub longer : (marks more : List Mark) (l : Literal) → Contains (literals_of marks) l → Contains (literals_of (marks ++ more)) l
longer marks more l h = subst (λ ls. Contains ls l) (sym (map-append (λ (m : Mark). m.lit) marks more)) (Contains-append_left (literals_of marks) (literals_of more) l h)

pub last_there : (marks : List Mark) (m : Mark) → Contains (literals_of (marks ++ m ∷ [])) m.lit
last_there marks m = subst (λ ls. Contains ls m.lit) (sym (map-append (λ (m : Mark). m.lit) marks (m ∷ []))) (Contains-push (literals_of marks) m.lit)

IsReason-at : (clauses : List (List Literal)) (number : ℕ) (before after : List Literal) (l : Literal) → before ≡ after → IsReason clauses number before l → IsReason clauses number after l
IsReason-at clauses number before after l e h = subst (λ ls. IsReason clauses number ls l) e h

pub Extends-push : (clauses : List (List Literal)) (first cur : List Mark) (m : Mark) (number : ℕ) → Extends clauses first cur → m.level ≡ highest_level cur → m.reason ≡ Some number
    → IsReason clauses number (literals_of cur) m.lit → Extends clauses first (cur ++ m ∷ [])
Extends-push clauses first cur m number x level reason r = record {
  added = x.added ++ m ∷ [];
  grown = ap (λ ms. ms ++ m ∷ []) x.grown ∙ append_assoc first x.added (m ∷ []);
  level = All-push (λ (n : Mark). n.level ≡ highest_level first) x.added m x.level (level ∙ same);
  reasons = λ i n low at. elim (slice_get-push cur m i n at) [
    | inl o ↦ let k = x.reasons i n low o in (
      k.0,
      k.1,
      IsReason-at clauses k.0 (literals_of (take i cur)) (literals_of (take i (cur ++ m ∷ []))) n.lit
          (ap literals_of (sym (take-append i cur (m ∷ []) (let lt : i < length cur = slice_get_within cur i n o in omega arith)))) k.2,
    )
    | inr q ↦ (
      number,
      ap (λ (k : Mark). k.reason) (sym q.1) ∙ reason,
      subst (λ (k : Mark). IsReason clauses number (literals_of (take i (cur ++ m ∷ []))) k.lit) q.1
          (IsReason-at clauses number (literals_of cur) (literals_of (take i (cur ++ m ∷ []))) m.lit (ap literals_of (sym (ap (λ k. take k (cur ++ m ∷ [])) q.0 ∙ take-append_all cur (m ∷ [])))) r),
    )
  ];
}
  where
    same : highest_level cur ≡ highest_level first
    same =
        let a : highest_level (first ++ x.added) ≡ max (highest_level first) (highest_level x.added) = highest-append first x.added in
        let b : highest_level x.added ≤ highest_level first = highest_bound x.added (highest_level first) (All-weaker (λ (n : Mark). n.level ≡ highest_level first) (λ n. n.level ≤ highest_level first) (λ n e. omega arith) x.added x.level) in
        let c : highest_level cur ≡ highest_level (first ++ x.added) = ap highest_level x.grown in
        omega arith

-- ---- what is kept when a literal is added

pub IsKept-push : (s : Propagator) (m : Mark) (after : MarkList) → after ≡ record { vars = s.marks.vars; marks = s.marks.marks ++ m ∷ [] } → IsKeptPropagator s → IsKeptPropagator (record s { marks = after })
IsKept-push s m after e k = subst (λ ms. IsKeptPropagator (record s { marks = ms })) (sym e) (record {
  listed = k.listed;
  guarded = λ j c l at is. guard l c (k.guarded j c l at is);
  done = λ i j l lt a b. let h = k.done i j l lt a b in (h.0, Contains-append_left s.marks.marks (m ∷ []) h.0 h.1, h.2, h.3);
  place = let l : length (s.marks.marks ++ m ∷ []) ≡ length s.marks.marks + 1 = length_push s.marks.marks m in let p : s.place ≤ length s.marks.marks = k.place in omega arith;
  kept = k.kept;
  forced = k.forced;
})
  where
    guard : (a : Literal) (c : List Literal) → Guard s.marks.marks s.place s.kept a c → Guard (s.marks.marks ++ m ∷ []) s.place s.kept a c
    guard a c g i x l at is =
        let h = g i x l (sym (slice_get-front s.marks.marks (m ∷ []) i (let p : s.place ≤ length s.marks.marks = k.place in omega arith)) ∙ at) is in
        (h.0, Contains-append_left s.marks.marks (m ∷ []) h.0 h.1, h.2, h.3)

pub Goes-trans : (clauses : List (List Literal)) (a b c : Propagator) → Goes clauses a b → Goes clauses b c → Goes clauses a c
Goes-trans clauses a b c p q = record {
  kept = q.kept;
  watching = q.watching;
  vars = q.vars ∙ p.vars;
  extends = λ first x. q.extends first (p.extends first x);
  size = let x : length a.watches.watched ≤ length b.watches.watched = p.size in let y : length b.watches.watched ≤ length c.watches.watched = q.size in omega arith;
}

pub Goes-push : (clauses : List (List Literal)) (s : Propagator) (m : Mark) (after : MarkList) (number : ℕ) → after ≡ record { vars = s.marks.vars; marks = s.marks.marks ++ m ∷ [] }
    → IsKeptPropagator s → IsWatching clauses s.watches.watched → m.level ≡ highest_level s.marks.marks → m.reason ≡ Some number → IsReason clauses number (literals_of s.marks.marks) m.lit
    → Goes clauses s (record s { marks = after })
Goes-push clauses s m after number e k w level reason r = record {
  kept = IsKept-push s m after e k;
  watching = w;
  vars = ap (λ (x : MarkList). x.vars) e;
  extends = λ first x. subst (λ (y : MarkList). Extends clauses first y.marks) (sym e) (Extends-push clauses first s.marks.marks m number x level reason r);
  size = omega arith;
}

pub Stays-same : (s : Propagator) (after : MarkList) → Stays s (record s { marks = after })
Stays-same s after = record { size = refl; units = λ k l at. at; place = refl }

pub Stays-trans : (a b c : Propagator) → Stays a b → Stays b c → Stays a c
Stays-trans a b c p q = record { size = q.size ∙ p.size; units = λ k l at. p.units k l (q.units k l at); place = q.place ∙ p.place }

-- ---- the table of lists changes, and nothing else

-- a value with other lists is known by its three parts
pub by_parts : (P : WatchList → Type 0) (w : WatchList) (watched : List (List Literal)) (units : List ℕ) → w.watched ≡ watched → w.units ≡ units → P (record { watched = watched; rows = w.rows; units = units }) → P w
by_parts P w watched units e u h =
    let e' = sym e in
    let u' = sym u in
    let is : ◌≡◌ {A = WatchList} (record { watched = watched; rows = w.rows; units = units }) w = λ i. record { watched = e' i; rows = w.rows; units = u' i } in
    subst P is h

module _ (clauses : List (List Literal)) (s : Propagator) (rows : List (List Watcher)) (k : IsKeptPropagator s) (watching : IsWatching clauses s.watches.watched) (size : length rows ≡ length s.watches.rows)
    (stands : (q : ℕ) (c : List Literal) (x : Literal) → slice_get s.watches.watched q ≡ Some c → IsWatched c x → IsWatchedIn rows x q c) where
  abbrev after : Propagator
  after = record s { watches = record s.watches { rows = rows } }

  pub IsKept-rows : IsKeptPropagator after
  IsKept-rows = record {
    listed = record { size = size ∙ k.listed.size; listed = stands; alone = k.listed.alone; units = k.listed.units };
    guarded = k.guarded;
    done = k.done;
    place = k.place;
    kept = k.kept;
    forced = k.forced;
  }

  pub Goes-rows : Goes clauses s after
  Goes-rows = record { kept = IsKept-rows; watching = watching; vars = refl; extends = λ first x. x; size = omega arith }

  pub Stays-rows : Stays s after
  Stays-rows = record { size = refl; units = λ q l at. at; place = refl }

-- ---- looking at a clause of the list

pub IsVisiting-push : (clauses : List (List Literal)) (s : Propagator) (m : Mark) (after : MarkList) (l : Literal) (j i : ℕ) → after ≡ record { vars = s.marks.vars; marks = s.marks.marks ++ m ∷ [] }
    → IsVisiting clauses s l j i → IsVisiting clauses (record s { marks = after }) l j i
IsVisiting-push clauses s m after l j i e v = record {
  kept = IsKept-push s m after e v.kept;
  watching = v.watching;
  falsified = grown (negated l) v.falsified;
  order = v.order;
  seen = λ k c at is. elim (v.seen k c at is) [ inl h ↦ inl ((h.0.0, h.0.1, grown h.0.0 h.0.2), h.1) | inr h ↦ inr h ];
}
  where
    grown : (x : Literal) → Contains (literals_of s.marks.marks) x → Contains (literals_of after.marks) x
    grown x h = subst (λ (y : MarkList). Contains (literals_of y.marks) x) (sym e) (longer s.marks.marks (m ∷ []) x h)

pub later : (rows : List (List Watcher)) (l : Literal) (i : ℕ) (u : Watcher) (k' : ℕ) (c : List Literal) → slice_get (row_at rows (code_of l)) i ≡ Some u → StandsAt (λ g. i ≤ g) rows l k' c
    → ((u.clause ≡ k') × Contains c u.blocker) ⊎ StandsAt (λ g. i + 1 ≤ g) rows l k' c
later rows l i u k' c at h = by (less i h.0 h.2)
  where
    less : (i j : ℕ) → i ≤ j → (j ≡ i) ⊎ (i + 1 ≤ j)
    less zero zero _ = inl refl
    less zero (suc j) _ = inr (omega arith)
    less (suc i) zero h = absurd (omega arith)
    less (suc i) (suc j) h = elim (less i j (omega arith)) [ inl e ↦ inl (ap suc e) | inr b ↦ inr (omega arith) ]

    by : (h.0 ≡ i) ⊎ (i + 1 ≤ h.0) → ((u.clause ≡ k') × Contains c u.blocker) ⊎ StandsAt (λ g. i + 1 ≤ g) rows l k' c
    by (inl e) =
        let a : slice_get (row_at rows (code_of l)) i ≡ Some h.1 = subst (λ x. slice_get (row_at rows (code_of l)) x ≡ Some h.1) e h.3 in
        let s : h.1 ≡ u = cc in
        inl (ap (λ (x : Watcher). x.clause) (sym s) ∙ h.4, subst (λ (x : Watcher). Contains c x.blocker) s h.5)
    by (inr b) = inr (h.0, h.1, b, h.3, h.4, h.5)

stands : (P : ℕ → Type 0) (rows : List (List Watcher)) (l : Literal) (k : ℕ) (c : List Literal) → StandsAt P rows l k c → IsWatchedIn rows l k c
stands P rows l k c h = (h.1, Contains-slice_get (row_at rows (code_of l)) h.0 h.1 h.3, h.4, h.5)

-- the clause at the place leaves the list, which it needn't be in
pub passed : (clauses : List (List Literal)) (s : Propagator) (l : Literal) (j i : ℕ) (u : Watcher) → IsVisiting clauses s l j i → slice_get (row_at s.watches.rows (code_of l)) i ≡ Some u
    → ((c : List Literal) → slice_get s.watches.watched u.clause ≡ Some c → IsWatched c l → ⊥) → IsVisiting clauses s l j (i + 1)
passed clauses s l j i u v at says = record {
  kept = v.kept;
  watching = v.watching;
  falsified = v.falsified;
  order = let o : j ≤ i = v.order in omega arith;
  seen = λ k' c there is. elim (v.seen k' c there is) [
    | inl h ↦ inl h
    | inr h ↦ elim (later s.watches.rows l i u k' c at h) [ inl e ↦ absurd (says c (subst (λ x. slice_get s.watches.watched x ≡ Some c) (sym e.0) there) is) | inr b ↦ inr b ]
  ];
}

-- the clause at the place stays in the list, at the first place that is left open, and some literal of it is true
module _ (clauses : List (List Literal)) (s : Propagator) (l : Literal) (j i : ℕ) (u x : Watcher) (w : WatchList) (v : IsVisiting clauses s l j i) (at : slice_get (row_at s.watches.rows (code_of l)) i ≡ Some u)
    (keeps : Keeps s.watches w (code_of l) j x) (same : u.clause ≡ x.clause)
    (says : (c : List Literal) → slice_get s.watches.watched u.clause ≡ Some c → IsWatched c l → Contains c u.blocker → HasTrue s.marks.marks c × Contains c x.blocker) where
  order : j ≤ i
  order = v.order

  low : j < length (row_at s.watches.rows (code_of l))
  low = let lt : i < length (row_at s.watches.rows (code_of l)) = slice_get_within (row_at s.watches.rows (code_of l)) i u at in let o = order in omega arith

  written : slice_get (row_at w.rows (code_of l)) j ≡ Some x
  written = ap (λ xs. slice_get xs j) keeps.sets.here ∙ slice_get-set_same (row_at s.watches.rows (code_of l)) j x low

  other_place : (g : ℕ) → g ≢ j → slice_get (row_at w.rows (code_of l)) g ≡ slice_get (row_at s.watches.rows (code_of l)) g
  other_place g n = ap (λ xs. slice_get xs g) keeps.sets.here ∙ slice_get-set_other (row_at s.watches.rows (code_of l)) j g x n

  seen : (k : ℕ) (c : List Literal) → slice_get s.watches.watched k ≡ Some c → IsWatched c l → (HasTrue s.marks.marks c × StandsAt (λ g. g < j + 1) w.rows l k c) ⊎ StandsAt (λ g. i + 1 ≤ g) w.rows l k c
  seen k c there is = elim (v.seen k c there is) [
    | inl h ↦ inl (h.0, (h.1.0, h.1.1, (let lt : h.1.0 < j = h.1.2 in omega arith), other_place h.1.0 (λ e. let lt : h.1.0 < j = h.1.2 in omega arith) ∙ h.1.3, h.1.4, h.1.5))
    | inr h ↦ elim (later s.watches.rows l i u k c at h) [
      | inl e ↦ let t = says c (subst (λ q. slice_get s.watches.watched q ≡ Some c) (sym e.0) there) is e.1 in inl (t.0, (j, x, omega arith, written, sym same ∙ e.0, t.1))
      | inr b ↦ inr (b.0, b.1, b.2, other_place b.0 (λ e. let le : i + 1 ≤ b.0 = b.2 in let o = order in omega arith) ∙ b.3, b.4, b.5)
    ]
  ]

  standing : (k : ℕ) (c : List Literal) (y : Literal) → slice_get s.watches.watched k ≡ Some c → IsWatched c y → IsWatchedIn w.rows y k c
  standing k c y there is = elim (cases_eq (code_of y) (code_of l)) [
    | inl e ↦
        let one = code_same y l e in
        subst (λ z. IsWatchedIn w.rows z k c) (sym one) (elim (seen k c there (subst (IsWatched c) one is)) [
          | inl h ↦ stands (λ g. g < j + 1) w.rows l k c h.1
          | inr h ↦ stands (λ g. i + 1 ≤ g) w.rows l k c h
        ])
    | inr n ↦ let h = v.kept.listed.listed k c y there is in (h.0, subst (λ xs. Contains xs h.0) (sym (keeps.sets.others (code_of y) n)) h.1, h.2, h.3)
  ]

  pub stays_visiting : IsVisiting clauses (record s { watches = w }) l (j + 1) (i + 1)
  stays_visiting = by_parts (λ y. IsVisiting clauses (record s { watches = y }) l (j + 1) (i + 1)) w s.watches.watched s.watches.units keeps.watched keeps.units (record {
    kept = IsKept-rows clauses s w.rows v.kept v.watching keeps.sets.size standing;
    watching = v.watching;
    falsified = v.falsified;
    order = let o = order in omega arith;
    seen = seen;
  })

  pub stays_goes : Goes clauses s (record s { watches = w })
  stays_goes = by_parts (λ y. Goes clauses s (record s { watches = y })) w s.watches.watched s.watches.units keeps.watched keeps.units (Goes-rows clauses s w.rows v.kept v.watching keeps.sets.size standing)

  pub stays_stays : Stays s (record s { watches = w })
  stays_stays = by_parts (λ y. Stays s (record s { watches = y })) w s.watches.watched s.watches.units keeps.watched keeps.units (Stays-rows clauses s w.rows v.kept v.watching keeps.sets.size standing)

  pub stays_row : length (row_at w.rows (code_of l)) ≡ length (row_at s.watches.rows (code_of l))
  stays_row = ap length keeps.sets.here ∙ length-set (row_at s.watches.rows (code_of l)) j x

-- the list is closed up
module _ (clauses : List (List Literal)) (s : Propagator) (l : Literal) (j i : ℕ) (w : WatchList) (v : IsVisiting clauses s l j i) (cuts : CutsWatches s.watches w (code_of l) j i) where
  left : (P : ℕ → Type 0) (k : ℕ) (c : List Literal) → ((g : ℕ) → P g → (g < j) ⊎ (i ≤ g)) → StandsAt P s.watches.rows l k c → IsWatchedIn w.rows l k c
  left P k c out h = (h.1, subst (λ xs. Contains xs h.1) (sym cuts.cuts.here) (Contains-cut (row_at s.watches.rows (code_of l)) j i h.0 h.1 (out h.0 h.2) h.3), h.4, h.5)

  left_standing : (k : ℕ) (c : List Literal) (y : Literal) → slice_get s.watches.watched k ≡ Some c → IsWatched c y → IsWatchedIn w.rows y k c
  left_standing k c y there is = elim (cases_eq (code_of y) (code_of l)) [
    | inl e ↦
        let one = code_same y l e in
        subst (λ z. IsWatchedIn w.rows z k c) (sym one) (elim (v.seen k c there (subst (IsWatched c) one is)) [
          | inl h ↦ left (λ g. g < j) k c (λ g lt. inl lt) h.1
          | inr h ↦ left (λ g. i ≤ g) k c (λ g le. inr le) h
        ])
    | inr n ↦ let h = v.kept.listed.listed k c y there is in (h.0, subst (λ xs. Contains xs h.0) (sym (cuts.cuts.others (code_of y) n)) h.1, h.2, h.3)
  ]

  pub cut_goes : Goes clauses s (record s { watches = w })
  cut_goes = by_parts (λ y. Goes clauses s (record s { watches = y })) w s.watches.watched s.watches.units cuts.watched cuts.units (Goes-rows clauses s w.rows v.kept v.watching cuts.cuts.size left_standing)

  pub cut_stays : Stays s (record s { watches = w })
  cut_stays = by_parts (λ y. Stays s (record s { watches = y })) w s.watches.watched s.watches.units cuts.watched cuts.units (Stays-rows clauses s w.rows v.kept v.watching cuts.cuts.size left_standing)

pub cut_visited : (s : Propagator) (l : Literal) (w : WatchList) → w.watched ≡ s.watches.watched → IsVisited s l → IsVisited (record s { watches = w }) l
cut_visited s l w e v = record { seen = λ k c at is. v.seen k c (ap (λ ps. slice_get ps k) (sym e) ∙ at) is }

-- at the list's end all are looked at
pub visited : (clauses : List (List Literal)) (s : Propagator) (l : Literal) (j i : ℕ) → IsVisiting clauses s l j i → length (row_at s.watches.rows (code_of l)) ≤ i → IsVisited s l
visited clauses s l j i v none = record { seen = λ k c at is. elim (v.seen k c at is) [ inl h ↦ h.0 | inr h ↦ absurd (gone k c h) ] }
  where
    gone : (k : ℕ) (c : List Literal) → StandsAt (λ g. i ≤ g) s.watches.rows l k c → ⊥
    gone k c h = absurd (let le : i ≤ h.0 = h.2 in let lt : h.0 < length (row_at s.watches.rows (code_of l)) = slice_get_within (row_at s.watches.rows (code_of l)) h.0 h.1 h.3 in omega arith)

-- nothing of a list is looked at
pub unvisited : (clauses : List (List Literal)) (s : Propagator) (l : Literal) → IsKeptPropagator s → IsWatching clauses s.watches.watched → Contains (literals_of s.marks.marks) (negated l) → IsVisiting clauses s l 0 0
unvisited clauses s l k w f = record {
  kept = k;
  watching = w;
  falsified = f;
  order = omega arith;
  seen = λ j c at is. inr (let h = k.listed.listed j c l at is in let g = slice_get-Contains (row_at s.watches.rows (code_of l)) h.0 h.1 in (g.0, h.0, omega arith, g.1, h.2, h.3));
}

-- the place moves past a literal that was looked at
pub advanced : (s : Propagator) (m : Mark) (kept : ℕ) → IsKeptPropagator s → slice_get s.marks.marks s.place ≡ Some m → IsVisited s (negated m.lit)
    → (kept ≡ s.kept) ⊎ ((kept ≡ s.place + 1) × (s.kept ≡ s.place) × (m.level ≡ highest_level s.marks.marks))
    → IsKeptPropagator (record s { place = s.place + 1; kept = kept })
advanced s m kept k at v how = record {
  listed = k.listed;
  guarded = λ j c l there is. guard l c (k.guarded j c l there is) (λ e. v.seen j c there (subst (IsWatched c) e is));
  done = k.done;
  place = let lt : s.place < length s.marks.marks = slice_get_within s.marks.marks s.place m at in omega arith;
  kept = below how;
  forced = k.forced;
}
  where
    below : (kept ≡ s.kept) ⊎ ((kept ≡ s.place + 1) × (s.kept ≡ s.place) × (m.level ≡ highest_level s.marks.marks)) → kept ≤ s.place + 1
    below (inl e) = let h : s.kept ≤ s.place = k.kept in omega arith
    below (inr h) = let e : kept ≡ s.place + 1 = h.0 in omega arith

    split : (i : ℕ) → i < s.place + 1 → (i < s.place) ⊎ (i ≡ s.place)
    split i l = by i s.place l
      where
        by : (i n : ℕ) → i < n + 1 → (i < n) ⊎ (i ≡ n)
        by zero zero l = inr refl
        by zero (suc n) l = inl (omega arith)
        by (suc i) zero l = absurd (omega arith)
        by (suc i) (suc n) l = elim (by i n (omega arith)) [ inl a ↦ inl (omega arith) | inr e ↦ inr (ap suc e) ]

    guard : (a : Literal) (c : List Literal) → Guard s.marks.marks s.place s.kept a c → (a ≡ negated m.lit → HasTrue s.marks.marks c) → Guard s.marks.marks (s.place + 1) kept a c
    guard a c g here i x l there is = elim (split i l) [
      | inl lt ↦ let h = g i x lt there is in (h.0, h.1, h.2, λ low. h.3 (old how low lt))
      | inr e ↦
          let same : m ≡ x = let w : slice_get s.marks.marks s.place ≡ Some x = subst (λ j. slice_get s.marks.marks j ≡ Some x) e there in cc in
          let isa : a ≡ negated m.lit = sym (ap negated (ap (λ (y : Mark). y.lit) same ∙ is) ∙ negated-negated a) in
          let t = here isa in
          let n = mark-of s.marks.marks t.0 t.2 in
          (n.0, n.1, subst (Contains c) (sym n.2) t.1, λ low. top n.0 n.1 x same e how low)
    ]
      where
        old : (kept ≡ s.kept) ⊎ ((kept ≡ s.place + 1) × (s.kept ≡ s.place) × (m.level ≡ highest_level s.marks.marks)) → i < kept → i < s.place → i < s.kept
        old (inl e) low lt = omega arith
        old (inr h) low lt = let e : s.kept ≡ s.place = h.1 in omega arith

        top : (n : Mark) → Contains s.marks.marks n → (x : Mark) → m ≡ x → i ≡ s.place
            → (kept ≡ s.kept) ⊎ ((kept ≡ s.place + 1) × (s.kept ≡ s.place) × (m.level ≡ highest_level s.marks.marks)) → i < kept → n.level ≤ x.level
        top n c x same e (inl q) low = absurd (let h : s.kept ≤ s.place = k.kept in omega arith)
        top n c x same e (inr q) low =
            let above : n.level ≤ highest_level s.marks.marks = All-contains (λ (y : Mark). y.level ≤ highest_level s.marks.marks) s.marks.marks n (highest_above s.marks.marks) c in
            let lv : m.level ≡ x.level = ap (λ (y : Mark). y.level) same in
            let hl : m.level ≡ highest_level s.marks.marks = q.2 in
            omega arith

-- ---- clauses

-- the number of a clause is one more than its place
pub named_at : (clauses : List (List Literal)) (k : ℕ) (c : List Literal) → slice_get clauses k ≡ Some c → clause_named clauses (k + 1) ≡ Some c
named_at clauses k c h =
    let e : (k + 1) - 1 ≡ k = omega arith in
    let z : nat_eq (k + 1) 0 ≡ false = nonzero k in
    ap (λ b. cond b None (slice_get clauses ((k + 1) - 1))) z ∙ ap (slice_get clauses) e ∙ h
  where
    nonzero : (k : ℕ) → nat_eq (k + 1) 0 ≡ false
    nonzero k = fails _ (Decides-eqb (k + 1) 0) (λ e. omega arith)

pub falsified_at : (clauses : List (List Literal)) (trues : List Literal) (k : ℕ) (c : List Literal) → slice_get clauses k ≡ Some c → All (λ l. Contains trues (negated l)) c
    → is_falsified_named clauses trues (k + 1) ≡ true
falsified_at clauses trues k c h all = ap (λ o. option_map_or (is_falsified trues) o false) (named_at clauses k c h) ∙ (Decides-is_falsified trues c).1 all

pub reason_at : (clauses : List (List Literal)) (trues : List Literal) (k : ℕ) (c : List Literal) (l : Literal) → slice_get clauses k ≡ Some c → Contains c l
    → All (λ x. x ≢ l → Contains trues (negated x)) c → IsReason clauses (k + 1) trues l
reason_at clauses trues k c l h m all = record {
  clause = c;
  named = named_at clauses k c h;
  member = m;
  others_false = λ x there n. All-contains (λ y. y ≢ l → Contains trues (negated y)) c x all there n;
}

-- a literal that is neither true nor false has no value
pub valueless : (marks : List Mark) (l : Literal) → (Contains (literals_of marks) l → ⊥) → (Contains (literals_of marks) (negated l) → ⊥) → IsFree marks l.var
valueless marks l t f = All-from_contains (λ (m : Mark). m.lit.var ≢ l.var) marks (λ m c e.
    elim (sign m.lit.positive l.positive) [
      | inl s ↦ t (subst (Contains (literals_of marks)) (λ i. record { var = e i; positive = s i }) (literal-of marks m c))
      | inr s ↦ f (subst (Contains (literals_of marks)) (λ i. record { var = e i; positive = s i }) (literal-of marks m c))
    ])
  where
    sign : (p q : Bool) → (p ≡ q) ⊎ (p ≡ not q)
    sign true true = inl refl
    sign true false = inr refl
    sign false true = inr refl
    sign false false = inl refl

pub Goes-advance : (clauses : List (List Literal)) (s : Propagator) (m : Mark) (kept : ℕ) → IsKeptPropagator s → IsWatching clauses s.watches.watched → slice_get s.marks.marks s.place ≡ Some m → IsVisited s (negated m.lit)
    → (kept ≡ s.kept) ⊎ ((kept ≡ s.place + 1) × (s.kept ≡ s.place) × (m.level ≡ highest_level s.marks.marks))
    → Goes clauses s (record s { place = s.place + 1; kept = kept })
Goes-advance clauses s m kept k w at v how = record { kept = advanced s m kept k at v how; watching = w; vars = refl; extends = λ first x. x; size = omega arith }
