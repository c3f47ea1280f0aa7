-- Places that make literals false, and what is resolved.
use Rattle.std.proofs.Common.{◌≡◌, ◌≢◌, ℕ, suc, zero, ◌+◌, ◌-◌, ◌<◌, ◌≤◌, nat_eq, Bool, true, false, cond, List, [], ◌∷◌, ◌++◌, ◌⊎◌, inl, inr, Option, Some, None, take, get_or, slice_get, length, Contains, All, refl, sym, subst, ap, ◌∙◌, true≢false, arith}
use Rattle.std.specs.Prelude.{IfNone}
use Rattle.std.proofs.lemmas.Bool.Decides.{Decides-eqb}
use Rattle.std.proofs.lemmas.List.{take_more}
use Rattle.std.proofs.lemmas.List.Elements.{All-contains, Contains-push_cases}
use Rattle.std.proofs.lemmas.Option.{slice_get_within}
use Rattle.std_lemmas.proofs.Lists.{Contains-slice_get}
use Rattle.propositional_logic.specs.Literal.{Literal, negated}
use Rattle.refutation_log.specs.Follows.{clause_named}
use Rattle.unit_propagate.specs.declared.marks.Mark.{Mark}
use Rattle.unit_propagate.specs.Trail.{IsTrail, literals_of}
use Rattle.unit_propagate.specs.Sound.{AreSoundMarks}
use Rattle.conflict_learn.specs.Places.{Gains}
use Rattle.conflict_learn.specs.Analysis.{HasFalsifier, FalsifiesOne, AreUpTo, IsResolved, IsLeft, AddsFalsifier}
use Rattle.conflict_learn.proofs.LevelLemmas.{level_up}

-- ---- adding places

taken_cases : (xs : List Literal) (i : ℕ) (x y : Literal) → i < length xs → x ≡ get_or xs i x → Contains (take (i + 1) xs) y → Contains (take i xs) y ⊎ (x ≡ y)
taken_cases xs i x y lt is h = Contains-push_cases (take i xs) x y (subst (λ ys. Contains ys y) (take_more xs i x lt ∙ ap (λ z. take i xs ++ z ∷ []) (sym is)) h)

-- ---- the highest level

-- ---- what is resolved, and what is kept

module _ (vars : ℕ) (marks : List Mark) (trail : IsTrail vars marks) (places : List ℕ) (place top : ℕ) (m : Mark) (at : slice_get marks place ≡ Some m) (low : All (λ q. q < place) places) (levels : AreUpTo marks top places) where
  -- the last place to come
  module _ (next : ℕ) (n : Mark) (to_come : Contains places next) (last : All (λ q. q ≤ next) places) (there : slice_get marks next ≡ Some n) where
    pub left_other : 0 < m.level → n.level ≢ top → IsLeft marks places place top
    left_other p ne = record {
      mark = m;
      there = at;
      above = p;
      alone = λ _ q k h a.
          let le : q ≤ next = All-contains (λ q. q ≤ next) places q last h in
          let up : k.level ≤ n.level = level_up vars marks q next k n trail le a there in
          let hi : n.level ≤ top = levels next n to_come there in
          omega arith;
    }

    pub resolved_top : (reason : ℕ) → m.level ≡ top → n.level ≡ top → m.reason ≡ Some reason → IsResolved marks places place top reason
    resolved_top reason e f r = record { mark = m; there = at; by_reason = r; level = inr (inr (e, (next, n, to_come, there, f))) }

    pub unresolved_top : (clauses : List (List Literal)) → m.level ≡ top → n.level ≡ top → m.reason ≡ None → AreSoundMarks clauses marks → IsLeft marks places place top
    unresolved_top clauses e f r s =
        let a = s.assumed place m at r in
        let lt : next < place = All-contains (λ q. q < place) places next low to_come in
        absurd (All-contains (λ (x : Mark). x.level ≢ m.level) (take place marks) n a.1 (Contains-slice_get (take place marks) next n (taken place marks next n lt there)) (f ∙ sym e))
      where
        taken : (k : ℕ) (xs : List Mark) (i : ℕ) (x : Mark) → i < k → slice_get xs i ≡ Some x → slice_get (take k xs) i ≡ Some x
        taken zero xs i x l h = absurd (omega arith)
        taken (suc k) [] i x l h = h
        taken (suc k) (y ∷ xs) zero x l h = h
        taken (suc k) (y ∷ xs) (suc i) x l h = taken k xs i x (omega arith) h

-- the number of a clause is one more than its place
pub place_of_named : (clauses : List (List Literal)) (n : ℕ) (c : List Literal) → clause_named clauses n ≡ Some c → (0 < n) × (slice_get clauses (n - 1) ≡ Some c) × (n - 1 < length clauses)
place_of_named clauses n c h = by (nat_eq n 0) refl h
  where
    by : (b : Bool) → nat_eq n 0 ≡ b → cond b None (slice_get clauses (n - 1)) ≡ Some c → (0 < n) × (slice_get clauses (n - 1) ≡ Some c) × (n - 1 < length clauses)
    by true e k = absurd (cc)
    by false e k = let ne : n ≢ 0 = λ z. true≢false (sym ((Decides-eqb n 0).1 z) ∙ e) in (omega arith, k, slice_get_within clauses (n - 1) c k)

pub named_again : (clauses : List (List Literal)) (n : ℕ) (c d : List Literal) → clause_named clauses n ≡ Some c → slice_get clauses (n - 1) ≡ Some d → clause_named clauses n ≡ Some d
named_again clauses n c d h at = let k = place_of_named clauses n c h in let e = k.1 in let s : c ≡ d = cc in h ∙ ap Some s

pub none_of : (o : Option ℕ) (P : Type 0) → (o ≡ None → P) → IfNone o P
none_of None P f = f refl
none_of (Some x) P f = tt

-- one more literal's falsifier
pub more_all : (marks : List Mark) (lits : List Literal) (i : ℕ) (x : Literal) (old new : List ℕ) → i < length lits → x ≡ get_or lits i x → AddsFalsifier marks old new x
    → ((y : Literal) → Contains (take i lits) y → Contains (literals_of marks) (negated y) → HasFalsifier marks old y)
    → (y : Literal) → Contains (take (i + 1) lits) y → Contains (literals_of marks) (negated y) → HasFalsifier marks new y
more_all marks lits i x old new lt is g inv y h f = elim (taken_cases lits i x y lt is h) [
  | inl d ↦ let k = inv y d f in (k.0, k.1, g.keeps k.0 k.2, k.3, k.4)
  | inr s ↦ subst (HasFalsifier marks new) s (g.all (subst (λ z. Contains (literals_of marks) (negated z)) (sym s) f))
]

pub more_only : (marks : List Mark) (lits : List Literal) (i : ℕ) (x : Literal) (first old new : List ℕ) → i < length lits → x ≡ get_or lits i x → AddsFalsifier marks old new x
    → ((q : ℕ) → Contains old q → Contains first q ⊎ FalsifiesOne marks lits q) → (q : ℕ) → Contains new q → Contains first q ⊎ FalsifiesOne marks lits q
more_only marks lits i x first old new lt is g inv q h = elim (g.only q h) [
  | inl o ↦ inv q o
  | inr m ↦ inr (m.0, x, m.1, (i, lt, sym is), m.2)
]

pub AddsFalsifier-gains : (marks : List Mark) (old new : List ℕ) (l : Literal) (place : ℕ) (m : Mark) → slice_get marks place ≡ Some m → m.lit ≡ negated l → Gains old new place → AddsFalsifier marks old new l
AddsFalsifier-gains marks old new l place m at e g = record {
  keeps = g.keeps;
  all = λ _. (place, m, g.has, at, e);
  only = λ q h. elim (g.only q h) [ inl s ↦ inr (m, ap (slice_get marks) s ∙ at, e) | inr o ↦ inl o ];
}
