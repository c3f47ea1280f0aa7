-- Where every literal was looked at, no clause is falsified or unit.
use Rattle.std.proofs.Common.{◌≡◌, ◌≢◌, ℕ, ◌<◌, ◌≤◌, false, List, [], ◌∷◌, inl, inr, Option, Some, None, slice_get, get_or, length, Contains, refl, sym, subst, ap, ◌∙◌, arith}
use Rattle.std.proofs.lemmas.List.Elements.{All-contains}
use Rattle.std.proofs.lemmas.Option.{slice_get_within, slice_get-get_or}
use Rattle.std_lemmas.proofs.Lists.{Contains-head, Contains-later}
use Rattle.propositional_logic.specs.Literal.{Literal, negated}
use Rattle.propositional_logic.specs.Partial.{is_falsified, unit_of, IsUnitIn}
use Rattle.propositional_logic.proofs.Tests.{Decides-is_falsified, fails, unit_is}
use Rattle.unit_propagate.specs.declared.marks.Mark.{Mark}
use Rattle.unit_propagate.specs.declared.propagator.Propagator.{Propagator}
use Rattle.unit_propagate.specs.Trail.{IsTrail, literals_of}
use Rattle.unit_propagate.specs.Quiet.{IsQuiet}
use Rattle.unit_propagate.specs.Watched.{IsWatching, IsWatchOf, IsWatched, HasTrue}
use Rattle.unit_propagate.specs.Watches.{Guard}
use Rattle.unit_propagate.specs.Propagator.{IsKeptPropagator, AreUnitsTrue}
use Rattle.unit_propagate.proofs.Places.{slice_get-Contains}
use Rattle.unit_propagate.proofs.TrailLemmas.{one_sign, literal-of, mark-of}
use Rattle.unit_propagate.proofs.PropagatorLemmas.{same_literal}

-- a clause with two watched literals, where some literal is true if one of them is false
module _ (vars : ℕ) (marks : List Mark) (trail : IsTrail vars marks) (c : List Literal) (a b : Literal) (rest : List Literal) (is : IsWatchOf c (a ∷ b ∷ rest))
    (partner : (l : Literal) → IsWatched (a ∷ b ∷ rest) l → Contains (literals_of marks) (negated l) → HasTrue marks (a ∷ b ∷ rest)) where
  first_in : Contains c a
  first_in = is.only a (Contains-head a (b ∷ rest))

  second_in : Contains c b
  second_in = is.only b (Contains-later a (b ∷ rest) b (Contains-head b rest))

  apart : a ≢ b
  apart e = absurd (let z : 0 ≡ 1 = is.once 0 1 a refl (ap Some (sym e)) in omega arith)

  two_not_falsified : is_falsified (literals_of marks) c ≡ false
  two_not_falsified = fails (is_falsified (literals_of marks) c) (Decides-is_falsified (literals_of marks) c) (λ all.
      let t = partner a (omega arith, inl refl) (All-contains (λ l. Contains (literals_of marks) (negated l)) c a all first_in) in
      one_sign vars marks t.0 trail t.2 (All-contains (λ l. Contains (literals_of marks) (negated l)) c t.0 all (is.only t.0 t.1)))

  no_unit_beside : (l x : Literal) → IsUnitIn (literals_of marks) c l → IsWatched (a ∷ b ∷ rest) x → Contains c x → x ≢ l → ⊥
  no_unit_beside l x u w there n =
      let t = partner x w (u.others_false x there n) in
      elim (same_literal t.0 l) [
        | inl e ↦ u.not_true (subst (Contains (literals_of marks)) e t.2)
        | inr m ↦ one_sign vars marks t.0 trail t.2 (u.others_false t.0 (is.only t.0 t.1) m)
      ]

  two_not_unit : (l : Literal) → IsUnitIn (literals_of marks) c l → ⊥
  two_not_unit l u = elim (same_literal a l) [
    | inl e ↦ no_unit_beside l b u (omega arith, inr refl) second_in (λ f. apart (e ∙ sym f))
    | inr n ↦ no_unit_beside l a u (omega arith, inl refl) first_in n
  ]

-- a clause with one literal, which is true
module _ (vars : ℕ) (marks : List Mark) (trail : IsTrail vars marks) (c : List Literal) (l : Literal) (is : Contains c l) (holds : Contains (literals_of marks) l) where
  one_not_falsified : is_falsified (literals_of marks) c ≡ false
  one_not_falsified = fails (is_falsified (literals_of marks) c) (Decides-is_falsified (literals_of marks) c) (λ all.
      one_sign vars marks l trail holds (All-contains (λ l. Contains (literals_of marks) (negated l)) c l all is))

  one_not_unit : (m : Literal) → IsUnitIn (literals_of marks) c m → ⊥
  one_not_unit m u = elim (same_literal l m) [
    | inl e ↦ u.not_true (subst (Contains (literals_of marks)) e holds)
    | inr n ↦ one_sign vars marks l trail holds (u.others_false l is n)
  ]

no_unit : (trues c : List Literal) → ((l : Literal) → IsUnitIn trues c l → ⊥) → unit_of trues c ≡ None
no_unit trues c h = by (unit_of trues c) refl
  where
    by : (o : Option Literal) → unit_of trues c ≡ o → o ≡ None
    by None e = refl
    by (Some l) e = absurd (h l (unit_is trues c l e))

module _ (clauses : List (List Literal)) (s : Propagator) (trail : IsTrail s.marks.vars s.marks.marks) (k : IsKeptPropagator s) (w : IsWatching clauses s.watches.watched)
    (all : length clauses ≤ length s.watches.watched) (units : AreUnitsTrue s) (end : length s.marks.marks ≤ s.place) where
  partner : (a : Literal) (c : List Literal) → Guard s.marks.marks s.place s.kept a c → Contains (literals_of s.marks.marks) (negated a) → HasTrue s.marks.marks c
  partner a c g h =
      let m = mark-of s.marks.marks (negated a) h in
      let i = slice_get-Contains s.marks.marks m.0 m.1 in
      let lt : i.0 < length s.marks.marks = slice_get_within s.marks.marks i.0 m.0 i.1 in
      let n = g i.0 m.0 (omega arith) i.1 m.2 in
      (n.0.lit, n.2, literal-of s.marks.marks n.0 n.1)

  watched : (c : List Literal) → Contains clauses c → (p : List Literal) × (i : ℕ) × (slice_get s.watches.watched i ≡ Some p) × IsWatchOf c p
  watched c h =
      let i = slice_get-Contains clauses c h in
      let lt : i.0 < length clauses = slice_get_within clauses i.0 c i.1 in
      by i.0 i.1 (omega arith)
    where
      by : (i : ℕ) → slice_get clauses i ≡ Some c → i < length s.watches.watched → (p : List Literal) × (i : ℕ) × (slice_get s.watches.watched i ≡ Some p) × IsWatchOf c p
      by i at lt =
          let p = get_or s.watches.watched i [] in
          let there = slice_get-get_or s.watches.watched i [] lt in
          let q = w i p there in
          let a = q.1 in
          let e : q.0 ≡ c = cc in
          (p, i, there, subst (λ x. IsWatchOf x p) e q.2)

  settled : (c p : List Literal) (i : ℕ) → slice_get s.watches.watched i ≡ Some p → IsWatchOf c p → (is_falsified (literals_of s.marks.marks) c ≡ false) × ((l : Literal) → IsUnitIn (literals_of s.marks.marks) c l → ⊥)
  settled c [] i at is = absurd (let z : 0 < 0 = is.some in omega arith)
  settled c (l ∷ []) i at is = (
    one_not_falsified s.marks.vars s.marks.marks trail c l (is.only l (Contains-head l [])) (units i l at),
    one_not_unit s.marks.vars s.marks.marks trail c l (is.only l (Contains-head l [])) (units i l at),
  )
  settled c (a ∷ b ∷ rest) i at is = (
    two_not_falsified s.marks.vars s.marks.marks trail c a b rest is (λ l h. partner l (a ∷ b ∷ rest) (k.guarded i (a ∷ b ∷ rest) l at h)),
    two_not_unit s.marks.vars s.marks.marks trail c a b rest is (λ l h. partner l (a ∷ b ∷ rest) (k.guarded i (a ∷ b ∷ rest) l at h)),
  )

  pub quiet : IsQuiet clauses (literals_of s.marks.marks)
  quiet = record {
    not_falsified = λ c h. let p = watched c h in (settled c p.0 p.1 p.2 p.3).0;
    not_unit = λ c h. let p = watched c h in no_unit (literals_of s.marks.marks) c (settled c p.0 p.1 p.2 p.3).1;
  }
