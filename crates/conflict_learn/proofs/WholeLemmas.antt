-- The steps of the analysis, as the functions make them.
use Rattle.std.proofs.Common.{◌≡◌, ℕ, ◌-◌, ◌<◌, true, List, [], ◌∷◌, ◌++◌, ◌⊎◌, inl, inr, Some, slice_get, length, Contains, All, refl, sym, subst, ap, ◌∙◌}
use Rattle.std.specs.Prelude.{Result, Ok, Err, OnOk, IfOk}
use Rattle.std_lemmas.proofs.Lists.{Contains-none}
use Rattle.propositional_logic.specs.Literal.{Literal, negated}
use Rattle.propositional_logic.specs.Partial.{is_falsified}
use Rattle.refutation_log.specs.Follows.{clause_named, is_falsified_named}
use Rattle.unit_propagate.specs.declared.marks.Mark.{Mark}
use Rattle.unit_propagate.specs.Trail.{IsTrail, literals_of}
use Rattle.unit_propagate.specs.Sound.{AreSoundMarks}
use Rattle.conflict_learn.specs.Learnt.{clause_level}
use Rattle.conflict_learn.specs.Analysis.{HasFalsifier, FalsifiesOne, IsResolved, IsLeft, IsAnalysis, Resolves}
use Rattle.conflict_learn.proofs.LevelLemmas.{same_mark}
use Rattle.conflict_learn.proofs.AnalysisLemmas.{falsified_clause, started, left_kept, resolved}
use Rattle.conflict_learn.proofs.StepLemmas.{named_again}

pub on_ok_both : {T E P Q R : Type 0} (r : Result T E) → OnOk r P → OnOk r Q → (P → Q → R) → OnOk r R
on_ok_both (Ok x) p q f = f p q
on_ok_both (Err e) p q f = tt

pub on_ok_one : {T E P R : Type 0} (r : Result T E) → OnOk r P → (P → R) → OnOk r R
on_ok_one (Ok x) p f = f p
on_ok_one (Err e) p f = tt

pub if_ok_both : {T E : Type 0} (P Q R : T → Type 0) (r : Result T E) → IfOk r P → IfOk r Q → ((x : T) → P x → Q x → R x) → IfOk r R
if_ok_both P Q R (Ok x) p q f = f x p q
if_ok_both P Q R (Err e) p q f = tt

-- the falsified clause is the one at the place before its number
pub the_conflict : (clauses : List (List Literal)) (trues : List Literal) (n : ℕ) (d : List Literal) → is_falsified_named clauses trues n ≡ true → slice_get clauses (n - 1) ≡ Some d
    → (clause_named clauses n ≡ Some d) × (is_falsified trues d ≡ true)
the_conflict clauses trues n d h at =
    let k = falsified_clause clauses trues n h in
    let named = named_again clauses n k.0 d k.1 at in
    let p = k.1 in
    let same : k.0 ≡ d = cc in
    (named, ap (is_falsified trues) (sym same) ∙ k.2)

pub started_at : (clauses : List (List Literal)) (vars : ℕ) (marks : List Mark) (number : ℕ) (c : List Literal) (first places : List ℕ) (lits : List Literal) (hints : List ℕ) → IsTrail vars marks
    → clause_named clauses number ≡ Some c → is_falsified (literals_of marks) c ≡ true → first ≡ []
    → ((l : Literal) → Contains c l → Contains (literals_of marks) (negated l) → HasFalsifier marks places l)
    → ((q : ℕ) → Contains places q → Contains first q ⊎ FalsifiesOne marks c q) → lits ≡ [] → hints ≡ number ∷ []
    → IsAnalysis clauses marks (clause_level marks c) (length marks) places lits hints
started_at clauses vars marks number c first places lits hints trail named falsified none all only no_lits one_hint =
    subst (λ hs. IsAnalysis clauses marks (clause_level marks c) (length marks) places lits hs) (sym one_hint)
    (subst (λ ls. IsAnalysis clauses marks (clause_level marks c) (length marks) places ls (number ∷ [])) (sym no_lits)
    (started clauses vars marks trail number c named falsified places all
    (λ q h. elim (only q h) [ inl n ↦ absurd (Contains-none q (subst (λ xs. Contains xs q) none n)) | inr f ↦ f ])))

pub left_at : (clauses : List (List Literal)) (vars : ℕ) (marks : List Mark) (top bound place : ℕ) (places places' : List ℕ) (lits lits' : List Literal) (hints : List ℕ) (m : Mark) → IsTrail vars marks
    → All (λ q. q < place) places → IsLeft marks places place top → slice_get marks place ≡ Some m → lits' ≡ lits ++ negated m.lit ∷ [] → places' ≡ places
    → IsAnalysis clauses marks top bound (places ++ place ∷ []) lits hints → IsAnalysis clauses marks top place places' lits' hints
left_at clauses vars marks top bound place places places' lits lits' hints m trail low left at is same a =
    let e : left.mark ≡ m = same_mark marks place place left.mark m refl left.there at in
    subst (λ ps. IsAnalysis clauses marks top place ps lits' hints) (sym same)
    (subst (λ ls. IsAnalysis clauses marks top place places ls hints) (ap (λ (x : Mark). lits ++ negated x.lit ∷ []) e ∙ sym is)
    (left_kept clauses vars marks trail top bound (places ++ place ∷ []) places place lits hints a refl low left))

pub resolved_at : (clauses : List (List Literal)) (vars : ℕ) (marks : List Mark) (top bound place reason : ℕ) (places places' : List ℕ) (lits lits' : List Literal) (hints hints' : List ℕ) → IsTrail vars marks
    → AreSoundMarks clauses marks → All (λ q. q < place) places → IsResolved marks places place top reason → Resolves clauses marks places places' reason → lits' ≡ lits → hints' ≡ hints ++ reason ∷ []
    → IsAnalysis clauses marks top bound (places ++ place ∷ []) lits hints → IsAnalysis clauses marks top place places' lits' hints'
resolved_at clauses vars marks top bound place reason places places' lits lits' hints hints' trail sound low r s is more a =
    subst (λ hs. IsAnalysis clauses marks top place places' lits' hs) (sym more)
    (subst (λ ls. IsAnalysis clauses marks top place places' ls (hints ++ reason ∷ [])) (sym is)
    (resolved clauses vars marks trail top bound (places ++ place ∷ []) places place lits hints a refl low reason r s.clause s.named s.sorted
    (sound.reasons place r.mark reason r.there r.by_reason) places' s.keeps s.all s.only))
