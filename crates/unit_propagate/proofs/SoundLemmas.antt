-- A sound trail stays sound when propagation extends it.
use Rattle.std.proofs.Common.{◌≡◌, ◌≢◌, ℕ, ◌+◌, ◌-◌, ◌<◌, ◌≤◌, List, [], ◌++◌, inl, inr, Some, take, get_or, slice_get, length, length-append, Contains, All, refl, sym, subst, ap, ◌∙◌, arith}
use Rattle.std.specs.Prelude.{AllPairs}
use Rattle.std.proofs.lemmas.List.{append-nil, get_or_append_left, get_or-append_right}
use Rattle.std.proofs.lemmas.List.Elements.{All-nil, All-append, All-map}
use Rattle.std.proofs.lemmas.Bool.{cases_lt}
use Rattle.std.proofs.lemmas.Option.{slice_get_within}
use Rattle.std_lemmas.proofs.Lists.{slice_get-append}
use Rattle.propositional_logic.specs.Literal.{Literal}
use Rattle.propositional_logic.specs.Clause.{IsFormula, IsWithinVariables}
use Rattle.refutation_log.specs.declared.entries.Entry.{Entry}
use Rattle.refutation_log.specs.Entry.{clauses_of}
use Rattle.refutation_log.proofs.Lists.{take-append}
use Rattle.unit_propagate.specs.declared.marks.Mark.{Mark}
use Rattle.unit_propagate.specs.Trail.{highest_level, literals_of}
use Rattle.unit_propagate.specs.Sound.{IsReason, AreSoundMarks, Extends}
use Rattle.unit_propagate.specs.declared.propagator.Propagator.{Propagator}
use Rattle.unit_propagate.specs.Propagator.{Goes, Stays, AreUnitsTrue}
use Rattle.unit_propagate.proofs.PropagatorLemmas.{longer}
use Rattle.unit_propagate.proofs.Places.{slice_get-front}
use Rattle.unit_propagate.proofs.TrailLemmas.{highest_above}

pub Extends-same : (clauses : List (List Literal)) (marks : List Mark) → Extends clauses marks marks
Extends-same clauses marks = record {
  added = [];
  grown = sym (append-nil marks);
  level = All-nil (λ m. m.level ≡ highest_level marks);
  reasons = λ i m low at. absurd (let lt : i < length marks = slice_get_within marks i m at in omega arith);
}

rising : (old added : List Mark) → AllPairs (λ m n. m.level ≤ n.level) old → All (λ m. m.level ≡ highest_level old) added → AllPairs (λ m n. m.level ≤ n.level) (old ++ added)
rising old added up level i j d lt high =
    elim (cases_lt j (length old)) [
      | inl low ↦
          let a = get_or_append_left old added d i (omega arith) in
          let b = get_or_append_left old added d j low in
          subst (λ (x : Mark). x.level ≤ (get_or (old ++ added) j d).level) (sym a) (subst (λ (y : Mark). (get_or old i d).level ≤ y.level) (sym b) (up i j d lt low))
      | inr past ↦
          let e : (get_or (old ++ added) j d).level ≡ highest_level old = at_new j past high in
          let f : (get_or (old ++ added) i d).level ≤ highest_level old = elim (cases_lt i (length old)) [
            | inl low ↦ subst (λ (x : Mark). x.level ≤ highest_level old) (sym (get_or_append_left old added d i low)) (highest_above old i d low)
            | inr p ↦ let g : (get_or (old ++ added) i d).level ≡ highest_level old = at_new i p (omega arith) in omega arith
          ] in
          omega arith
    ]
  where
    at_new : (k : ℕ) → length old ≤ k → k < length (old ++ added) → (get_or (old ++ added) k d).level ≡ highest_level old
    at_new k past high =
        let len : length (old ++ added) ≡ length old + length added = length-append old added in
        ap (λ (x : Mark). x.level) (get_or-append_right old added (length old) k d refl past) ∙ level (k - length old) d (omega arith)

pub IsSound-extends : (clauses : List (List Literal)) (old new : List Mark) → Extends clauses old new → AreSoundMarks clauses old → AreSoundMarks clauses new
IsSound-extends clauses old new x s = subst (AreSoundMarks clauses) (sym x.grown) (record {
  rising = rising old x.added s.rising x.level;
  assumed = λ i m at none. elim (cases_lt i (length old)) [
    | inl low ↦
        let a = s.assumed i m (sym (slice_get-front old x.added i low) ∙ at) none in
        (a.0, subst (All (λ n. n.level ≢ m.level)) (sym (take-append i old x.added (omega arith))) a.1)
    | inr past ↦ absurd (let r = x.reasons i m past (ap (λ ms. slice_get ms i) x.grown ∙ at) in let e = r.1 in cc)
  ];
  reasons = λ i m number at is. elim (cases_lt i (length old)) [
    | inl low ↦ subst (λ ms. IsReason clauses number (literals_of ms) m.lit) (sym (take-append i old x.added (omega arith))) (s.reasons i m number (sym (slice_get-front old x.added i low) ∙ at) is)
    | inr past ↦
        let r = x.reasons i m past (ap (λ ms. slice_get ms i) x.grown ∙ at) in
        let e = r.1 in
        let same : r.0 ≡ number = cc in
        subst (λ ms. IsReason clauses number (literals_of (take i ms)) m.lit) x.grown (subst (λ n. IsReason clauses n (literals_of (take i new)) m.lit) same r.2)
  ];
})

pub within_all : (vars vars' : ℕ) (base : List (List Literal)) (seen : List Entry) → vars ≡ vars' → IsFormula vars base → All (λ e. IsWithinVariables vars e.clause) seen → All (IsWithinVariables vars') (base ++ clauses_of seen)
within_all vars vars' base seen e f s =
    subst (λ v. All (IsWithinVariables v) (base ++ clauses_of seen)) e (All-append (IsWithinVariables vars) base (clauses_of seen) f.1 (All-map (IsWithinVariables vars) (λ (e : Entry). e.clause) seen s))

-- what is true stays true
pub Goes-literals : (clauses : List (List Literal)) (a b : Propagator) (l : Literal) → Goes clauses a b → Contains (literals_of a.marks.marks) l → Contains (literals_of b.marks.marks) l
Goes-literals clauses a b l g h =
    let x = g.extends a.marks.marks (Extends-same clauses a.marks.marks) in
    subst (λ ms. Contains (literals_of ms) l) (sym x.grown) (longer a.marks.marks x.added l h)

pub units_stay : (clauses : List (List Literal)) (a b : Propagator) → Goes clauses a b → Stays a b → AreUnitsTrue a → AreUnitsTrue b
units_stay clauses a b g s u k l at = Goes-literals clauses a b l g (u k l (s.units k l at))

-- literals keep their places
pub Goes-at : (clauses : List (List Literal)) (a b : Propagator) (i : ℕ) (m : Mark) → Goes clauses a b → slice_get a.marks.marks i ≡ Some m → slice_get b.marks.marks i ≡ Some m
Goes-at clauses a b i m g h =
    let x = g.extends a.marks.marks (Extends-same clauses a.marks.marks) in
    ap (λ ms. slice_get ms i) x.grown ∙ slice_get-append a.marks.marks x.added i m h
