-- Looking at one clause that watches a false literal.
use Rattle.std.proofs.Common.{◌≡◌, ◌≢◌, ℕ, suc, zero, ◌+◌, ◌*◌, ◌^◌, ◌<◌, ◌≤◌, true, List, [], ◌∷◌, ◌++◌, inl, inr, Some, slice_get, length, Contains, All, sym, subst, arith}
use Rattle.std.proofs.lemmas.List.Elements.{All-contains, All-weaker}
use Rattle.std.proofs.lemmas.Option.{slice_get_within}
use Rattle.std_lemmas.proofs.Lists.{Contains-slice_get, All-from_contains}
use Rattle.propositional_logic.specs.Literal.{Literal, negated}
use Rattle.propositional_logic.specs.Clause.{IsWithinVariables}
use Rattle.refutation_log.specs.Follows.{is_falsified_named}
use Rattle.unit_propagate.specs.declared.marks.Mark.{Mark}
use Rattle.unit_propagate.specs.declared.propagator.Propagator.{Propagator}
use Rattle.unit_propagate.specs.declared.rows.Watcher.{Watcher}
use Rattle.unit_propagate.specs.Trail.{literals_of}
use Rattle.unit_propagate.specs.Sound.{IsReason}
use Rattle.unit_propagate.specs.Marks.{MarkList}
use Rattle.unit_propagate.specs.Watched.{IsWatchOf, IsWatched, HasTrue}
use Rattle.propositional_logic.specs.Codes.{code_of}
use Rattle.unit_propagate.specs.Rows.{row_at}
use Rattle.unit_propagate.specs.Watches.{IsSide}
use Rattle.unit_propagate.specs.Propagator.{IsKeptPropagator, IsVisiting}
use Rattle.unit_propagate.proofs.Places.{All-slice_get, slice_get-Contains}
use Rattle.unit_propagate.proofs.CodeLemmas.{code_fits}
use Rattle.unit_propagate.proofs.PropagatorLemmas.{same_literal, passed, last_there, falsified_at, reason_at}

pub false_all : (marks : List Mark) (lits : List Literal) (i : ℕ) → length lits ≤ i → ((j : ℕ) (y : Literal) → 2 ≤ j → j < i → slice_get lits j ≡ Some y → Contains (literals_of marks) (negated y))
    → (j : ℕ) (y : Literal) → 2 ≤ j → slice_get lits j ≡ Some y → Contains (literals_of marks) (negated y)
false_all marks lits i h before j y low there = before j y low (let l : j < length lits = slice_get_within lits j y there in omega arith) there

module _ (clauses : List (List Literal)) (s : Propagator) (l : Literal) (j i : ℕ) (u : Watcher) (v : IsVisiting clauses s l j i) (there : slice_get (row_at s.watches.rows (code_of l)) i ≡ Some u) where
  module _ (c : List Literal) (at : slice_get s.watches.watched u.clause ≡ Some c) where
    -- it doesn't watch the literal
    pub gone_apart : (IsWatched c l → ⊥) → IsVisiting clauses s l j (i + 1)
    gone_apart h = passed clauses s l j i u v there (λ d there' is. let e : d ≡ c = cc in absurd (h (subst (λ x. IsWatched x l) e is)))

    -- some literal is true
    pub has_true : (b : Literal) → Contains c b → Contains (literals_of s.marks.marks) b → (d : List Literal) → slice_get s.watches.watched u.clause ≡ Some d → IsWatched d l → Contains d u.blocker
        → HasTrue s.marks.marks d × Contains d b
    has_true b in_c h d there' is member = let e : c ≡ d = cc in let in_d : Contains d b = subst (λ x. Contains x b) e in_c in ((b, in_d, h), in_d)

    module _ (p : ℕ) (other : Literal) (side : IsSide c l p other) where
      pub other_there : Contains c other
      other_there = elim side.1 [ inl h ↦ Contains-slice_get c 1 other h.2 | inr h ↦ Contains-slice_get c 0 other h.2 ]

      pub other_in : (clause : List Literal) → IsWatchOf clause c → Contains clause other
      other_in clause is = is.only other other_there

      module _ (none : (j : ℕ) (x : Literal) → 2 ≤ j → slice_get c j ≡ Some x → Contains (literals_of s.marks.marks) (negated x)) where
        at_place : (q : ℕ) (x : Literal) → slice_get c q ≡ Some x → x ≢ other → Contains (literals_of s.marks.marks) (negated x)
        at_place zero x e n = elim side.1 [
          | inl h ↦ let a = h.1 in let same : l ≡ x = cc in subst (λ y. Contains (literals_of s.marks.marks) (negated y)) same v.falsified
          | inr h ↦ absurd (n (let a = h.2 in cc))
        ]
        at_place (suc zero) x e n = elim side.1 [
          | inl h ↦ absurd (n (let a = h.2 in cc))
          | inr h ↦ let a = h.1 in let same : l ≡ x = cc in subst (λ y. Contains (literals_of s.marks.marks) (negated y)) same v.falsified
        ]
        at_place (suc (suc q)) x e n = none (suc (suc q)) x (omega arith) e

        others : (clause : List Literal) → IsWatchOf clause c → All (λ x. x ≢ other → Contains (literals_of s.marks.marks) (negated x)) clause
        others clause is = All-from_contains (λ x. x ≢ other → Contains (literals_of s.marks.marks) (negated x)) clause
            (λ x h n. let q = slice_get-Contains c x (is.all x h) in at_place q.0 x q.1 n)

        pub conflict : Contains (literals_of s.marks.marks) (negated other) → is_falsified_named clauses (literals_of s.marks.marks) (u.clause + 1) ≡ true
        conflict h =
            let w = v.watching u.clause c at in
            falsified_at clauses (literals_of s.marks.marks) u.clause w.0 w.1
            (All-weaker (λ x. x ≢ other → Contains (literals_of s.marks.marks) (negated x)) (λ x. Contains (literals_of s.marks.marks) (negated x)) (λ x f. elim (same_literal x other) [
              | inl e ↦ subst (λ y. Contains (literals_of s.marks.marks) (negated y)) (sym e) h
              | inr n ↦ f n
            ]) w.0 (others w.0 w.2))

        pub reason : IsReason clauses (u.clause + 1) (literals_of s.marks.marks) other
        reason = let w = v.watching u.clause c at in reason_at clauses (literals_of s.marks.marks) u.clause w.0 other w.1 (other_in w.0 w.2) (others w.0 w.2)

      pub other_within : (vars : ℕ) → All (IsWithinVariables vars) clauses → other.var ≤ vars
      other_within vars h =
          let w = v.watching u.clause c at in
          All-contains (λ (x : Literal). x.var ≤ vars) w.0 other (All-slice_get (IsWithinVariables vars) clauses u.clause w.0 h w.1) (other_in w.0 w.2)

    -- a literal of the clause is of one of the variables
    pub literal_within : (vars : ℕ) (x : Literal) → All (IsWithinVariables vars) clauses → Contains c x → x.var ≤ vars
    literal_within vars x h m =
        let w = v.watching u.clause c at in
        All-contains (λ (y : Literal). y.var ≤ vars) w.0 x (All-slice_get (IsWithinVariables vars) clauses u.clause w.0 h w.1) (w.2.only x m)

-- there is a place left open in the list before the one that is looked at
pub open_place : (clauses : List (List Literal)) (s : Propagator) (l : Literal) (j i : ℕ) (u : Watcher) → IsVisiting clauses s l j i → slice_get (row_at s.watches.rows (code_of l)) i ≡ Some u
    → j < length (row_at s.watches.rows (code_of l))
open_place clauses s l j i u v at = let o : j ≤ i = v.order in let lt : i < length (row_at s.watches.rows (code_of l)) = slice_get_within (row_at s.watches.rows (code_of l)) i u at in omega arith

-- the blocker is true
pub blocked : (s : Propagator) (l : Literal) (u : Watcher) (b : Literal) → u.blocker ≡ b → Contains (literals_of s.marks.marks) b → (c : List Literal) → slice_get s.watches.watched u.clause ≡ Some c → IsWatched c l → Contains c u.blocker
    → HasTrue s.marks.marks c × Contains c b
blocked s l u b e h c at is member = let there : Contains c b = subst (Contains c) e member in ((b, there, h), there)

-- a literal that was forced is true
pub forced_there : (s : Propagator) (m : Mark) (after : MarkList) → after ≡ record { vars = s.marks.vars; marks = s.marks.marks ++ m ∷ [] } → Contains (literals_of after.marks) m.lit
forced_there s m after e = subst (λ (x : MarkList). Contains (literals_of x.marks) m.lit) (sym e) (last_there s.marks.marks m)

-- a literal's list is in the table
pub list_fits : (s : Propagator) (l : Literal) → IsKeptPropagator s → l.var ≤ s.marks.vars → code_of l ≤ 2 * 2 ^ 30 + 1 → code_of l < length s.watches.rows
list_fits s l k h c = code_fits s.marks.vars (length s.watches.rows) l k.listed.size h c
