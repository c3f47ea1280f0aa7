-- A sound trail stays sound when a literal is assumed on the next level.
use Rattle.std.proofs.Common.{◌≡◌, ◌≢◌, ◌+◌, ◌<◌, ◌≤◌, List, [], ◌∷◌, ◌++◌, inl, inr, None, take, get_or, length, All, refl, sym, subst, ap, ◌∙◌, arith}
use Rattle.std.proofs.lemmas.List.Elements.{All-weaker}
use Rattle.std.proofs.lemmas.List.Quantifiers.{all_pairs_push}
use Rattle.std.proofs.lemmas.Option.{slice_get_within}
use Rattle.std_lemmas.proofs.Lists.{slice_get-push}
use Rattle.propositional_logic.specs.Literal.{Literal}
use Rattle.refutation_log.proofs.Lists.{take-append, take-append_all}
use Rattle.unit_propagate.specs.declared.marks.Mark.{Mark}
use Rattle.unit_propagate.specs.Trail.{highest_level, literals_of}
use Rattle.unit_propagate.specs.Sound.{IsReason, AreSoundMarks}
use Rattle.unit_propagate.proofs.TrailLemmas.{highest_above}

sound_with : (clauses : List (List Literal)) (marks : List Mark) (new : Mark) → new.level ≡ highest_level marks + 1 → new.reason ≡ None → AreSoundMarks clauses marks → AreSoundMarks clauses (marks ++ new ∷ [])
sound_with clauses marks new level none s = record {
  rising = all_pairs_push (λ (m n : Mark). m.level ≤ n.level) marks new s.rising (λ k d l. let h : (get_or marks k d).level ≤ highest_level marks = highest_above marks k d l in omega arith);
  assumed = λ i m at free. elim (slice_get-push marks new i m at) [
    | inl o ↦ let a = s.assumed i m o free in (a.0, subst (All (λ n. n.level ≢ m.level)) (sym (take-append i marks (new ∷ []) (let lt : i < length marks = slice_get_within marks i m o in omega arith))) a.1)
    | inr q ↦
        let e : new.level ≡ m.level = ap (λ (x : Mark). x.level) q.1 in (
          omega arith,
          subst (All (λ n. n.level ≢ m.level)) (sym (ap (λ k. take k (marks ++ new ∷ [])) q.0 ∙ take-append_all marks (new ∷ [])))
              (All-weaker (λ (n : Mark). n.level ≤ highest_level marks) (λ n. n.level ≢ m.level) (λ n h x. omega arith) marks (highest_above marks)),
        )
  ];
  reasons = λ i m number at is. elim (slice_get-push marks new i m at) [
    | inl o ↦ subst (λ ms. IsReason clauses number (literals_of ms) m.lit) (sym (take-append i marks (new ∷ []) (let lt : i < length marks = slice_get_within marks i m o in omega arith))) (s.reasons i m number o is)
    | inr q ↦ absurd (let e : new.reason ≡ m.reason = ap (λ (x : Mark). x.reason) q.1 in cc)
  ];
}

pub IsSound-assume : (clauses : List (List Literal)) (marks : List Mark) (lit : Literal) → AreSoundMarks clauses marks → AreSoundMarks clauses (marks ++ (record { lit = lit; level = highest_level marks + 1; reason = None }) ∷ [])
IsSound-assume clauses marks lit s = sound_with clauses marks (record { lit = lit; level = highest_level marks + 1; reason = None }) refl refl s
